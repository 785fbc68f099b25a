-- How the flag of a case is set.
use Rattle.std.proofs.Common.{◌≡◌, ◌≢◌, inl, inr, ℕ, ◌*◌, ◌+◌, ◌<◌, Bool, true, false, List, length, map, refl, sym, ap, ◌∙◌, subst, arith, Option, Some, Ok, Err}
use Rattle.std.specs.Prelude.{option_map}
use Rattle.std.proofs.lemmas.Bool.{ltb-false}
use Rattle.disk_model.specs.Places.{SameOutside}
use Rattle.disk_model.specs.declared.disk.Disk as disk
use Rattle.journal_layout.specs.Case.{Case}
use Rattle.journal_layout.specs.Folding.{used_blocks, with_pin, pinned_as}
use Rattle.journal_layout.specs.Layout.{half_length}
use Rattle.journal_layout.specs.LiveCounts.{case_uses_same, used_length, named_pinned}
use Rattle.journal_layout.specs.LiveLaws.{used_pinned}
use Rattle.journal_layout.specs.LiveFinds.{pin_sound}
use Rattle.journal_layout.specs.Record.{Pin}
use Rattle.journal_layout.specs.Rewriting.{fits}
use Rattle.journal_layout.specs.Soundness.{case_numbered, uses as uses_in}
use Rattle.journal_layout.specs.Standing.{folded_of}
use Rattle.case_journal.specs.Append.{AppendStep, MayFollow}
use Rattle.case_journal.specs.Journaled.{Journaled}
use Rattle.intake.proofs.DurableLemmas.{held_image, images_made, pin_moves_none}
use Rattle.intake.specs.Guarding.{Guards}
use Rattle.case_journal.specs.declared.faults.JournalFault.{JournalFault}
use Rattle.case_journal.specs.declared.faults.JournalFault.TheVariants as journal_fault
use Rattle.intake.specs.Ending.{EndsStreams}
use Rattle.intake.specs.Faults.{fault_of}
use Rattle.intake.specs.Live.{case_uses, cases_named}
use Rattle.intake.specs.Parts.{Parts, StreamParts, state_of, contents_of, taken_in}
use Rattle.intake.specs.Sound.{IsArchiveSound, case_blocks}
use Rattle.intake.specs.Step.{PinStep, HasCase}
use Rattle.intake.proofs.AfterLemmas.{sound_after, same_state, halted_now, same_bytes}
use Rattle.intake.proofs.RecordedLemmas.{record_fits, record_full, state_recorded}

module _ {D : Type 0} (g : disk.Ghosts D) (d d' : D) (j j' : Journaled) (most : ℕ) (flags : List Bool) (streams streams' : List (Option StreamParts)) (b b' : Bool) (seq : ℕ) (flag : Bool) (c : Case)
    (sound : IsArchiveSound g d j most flags streams b) (on : b ≡ false) (found : Some c ≡ case_numbered seq j.standing.cases) where
  abbrev old : Parts D
  old = record { disk = d; journal = j; limit = most; streams = streams; stopped = b }

  abbrev new : Parts D
  new = record { disk = d'; journal = j'; limit = most; streams = streams'; stopped = b' }

  has : HasCase (state_of old) seq c
  has = (on, sym found)

  pub pin_may : MayFollow j.standing (Pin seq flag)
  pin_may = pin_sound j.standing.shape.data_blocks (folded_of j.standing) seq flag (sound.runs on).cases (c, sym found)

  -- its record does not fit behind the others
  pub pin_behind : fits j.standing (Pin seq flag) ≡ false → half_length j.standing.shape < j.standing.used + 16 + 1
  pin_behind e = let far = ltb-false (j.standing.used + 16) (half_length j.standing.shape) e in omega (arith, far)

  -- it stands already
  pub pin_same : (u : Unit {0}) → c.pinned ≡ flag → PinStep (state_of old) seq flag (Ok u) (state_of old)
  pin_same u same = (c, has, inl (same, refl))

  -- it is set
  pub pin_ok : (u : Unit {0}) → c.pinned ≢ flag → AppendStep j (Pin seq flag) (Ok u) j' → PinStep (state_of old) seq flag (Ok u) (state_of (record { disk = d'; journal = j'; limit = most; streams = streams; stopped = b }))
  pin_ok u other step = (
    c,
    has,
    inr (
      other,
      record_fits d d' j (Pin seq flag) most streams b step.1,
      ap (λ (k : Journaled). state_of (record { disk = d'; journal = k; limit = most; streams = streams; stopped = b })) step.2
          ∙ state_recorded d d' j (Pin seq flag) most streams b,
    ),
  )

  pub pin_err : (jf : JournalFault) → c.pinned ≢ flag → AppendStep j (Pin seq flag) (Err jf) j' → EndsStreams (fault_of jf) streams b' streams' → PinStep (state_of old) seq flag (Err (fault_of jf)) (state_of new)
  pin_err journal_fault.Stopped other step ends = absurd (let e : true ≡ false = sym step.0 ∙ (sound.runs on).journal in cc)
  pin_err journal_fault.JournalFull other step ends = (c, has, other, record_full d d' j (Pin seq flag) most streams b step.1, same_state g d d' j j' (Pin seq flag) most flags streams streams' b b' on ends.0 ends.1 step.2)
  pin_err journal_fault.NumbersSpent other step ends = absurd step
  pin_err journal_fault.OutOfMemory other step ends = (c, has, other, record_fits d d' j (Pin seq flag) most streams b step.1, same_state g d d' j j' (Pin seq flag) most flags streams streams' b b' on ends.0 ends.1 step.2)
  pin_err journal_fault.Disk other step ends = (c, has, other, record_fits d d' j (Pin seq flag) most streams b step.1, halted_now g d d' j j' (Pin seq flag) most flags streams streams' b b' on ends.0 ends.1 step.2)
  pin_err journal_fault.OldVersion other step ends = absurd step

  pub pin_sound_after : (u : Unit {0}) → AppendStep j (Pin seq flag) (Ok u) j' → Guards g d' j' → IsArchiveSound g d' j' most flags streams b
  pin_sound_after u step keeps =
      subst (λ (k : Journaled). IsArchiveSound g d' k most flags streams b) (sym step.2)
      (sound_after g d d' j (Pin seq flag) most flags flags streams b sound on (subst (Guards g d') step.2 keeps) pin_may refl
      (λ k. (let x : case_uses (with_pin seq flag j.standing.cases) k ≡ uses_in k (used_blocks (with_pin seq flag j.standing.cases)) = case_uses_same k (with_pin seq flag j.standing.cases) in
      let y : case_uses j.standing.cases k ≡ uses_in k (used_blocks j.standing.cases) = case_uses_same k j.standing.cases in
      let e = ap (uses_in k) (used_pinned seq flag j.standing.cases) in
      omega (arith, x, y, e)))
      (let x : length (used_blocks (with_pin seq flag j.standing.cases)) ≡ case_blocks (with_pin seq flag j.standing.cases) = used_length (with_pin seq flag j.standing.cases) in
      let y : length (used_blocks j.standing.cases) ≡ case_blocks j.standing.cases = used_length j.standing.cases in
      let e = ap length (used_pinned seq flag j.standing.cases) in omega (arith, x, y, e))
      (λ name. (let n : cases_named (with_pin seq flag j.standing.cases) name ≡ cases_named j.standing.cases name = named_pinned seq flag j.standing.cases name in omega (arith, n))))

  pub pin_bytes : (u : Unit {0}) → AppendStep j (Pin seq flag) (Ok u) j' → SameOutside 4096 (2 * half_length j.standing.shape) (g.seen d) (g.seen d')
      → contents_of g.seen (record { disk = d'; journal = j'; limit = most; streams = streams; stopped = b }) ≡ contents_of g.seen old
  pin_bytes u step outside =
      ap (λ (k : Journaled). contents_of g.seen (record { disk = d'; journal = k; limit = most; streams = streams; stopped = b })) step.2
      ∙ ap (λ (x : List (List ℕ)). record { images = x; taken = map (option_map (taken_in j (g.seen d'))) streams }) (images_made (held_image j.standing.shape (g.seen d')) (pinned_as seq flag) (pin_moves_none j.standing.shape (g.seen d') seq flag) j.standing.cases)
      ∙ same_bytes g.seen d d' j most streams b outside b
