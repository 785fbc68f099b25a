-- How the label of a case is set.
use Rattle.std.proofs.Common.{◌≡◌, ◌≢◌, inl, inr, ⊎_elim, ℕ, ◌*◌, Bool, true, false, List, length, map, refl, sym, ap, ◌∙◌, subst, arith, Option, Some, Result, Ok, Err}
use Rattle.std.specs.Prelude.{option_map}
use Rattle.std.specs.Str.{bytes_eq}
use Rattle.std.proofs.lemmas.Bool.{false≢true}
use Rattle.std.proofs.lemmas.Slice.Eq.{bytes_eq-Decides}
use Rattle.disk_model.specs.Places.{SameOutside}
use Rattle.disk_model.specs.declared.disk.Disk as disk
use Rattle.journal_layout.specs.Case.{Case}
use Rattle.journal_layout.specs.Folding.{used_blocks, with_label, labelled_as}
use Rattle.journal_layout.specs.Front.{is_known}
use Rattle.journal_layout.specs.Layout.{half_length}
use Rattle.journal_layout.specs.LiveCounts.{case_uses_same, used_length, named_labelled}
use Rattle.journal_layout.specs.LiveLaws.{used_labelled}
use Rattle.journal_layout.specs.LiveFinds.{label_sound}
use Rattle.journal_layout.specs.Record.{Label}
use Rattle.journal_layout.specs.Soundness.{IsLabel, case_numbered, uses as uses_in}
use Rattle.journal_layout.specs.Standing.{folded_of}
use Rattle.case_journal.specs.Append.{AppendStep, MayFollow, MayLabel, LabelStep as JournalStep}
use Rattle.case_journal.specs.Journaled.{Journaled}
use Rattle.intake.proofs.DurableLemmas.{held_image, images_made, label_moves_none}
use Rattle.intake.specs.Guarding.{Guards}
use Rattle.case_journal.specs.declared.faults.JournalFault.{JournalFault}
use Rattle.case_journal.specs.declared.faults.JournalFault.TheVariants as journal_fault
use Rattle.intake.specs.Ending.{EndsStreams}
use Rattle.intake.specs.Faults.{fault_of}
use Rattle.intake.specs.Live.{case_uses, cases_named}
use Rattle.intake.specs.Parts.{Parts, StreamParts, state_of, contents_of, taken_in}
use Rattle.intake.specs.Sound.{IsArchiveSound, case_blocks}
use Rattle.intake.specs.Step.{LabelStep, HasCase}
use Rattle.intake.proofs.AfterLemmas.{sound_after, same_state, halted_now, same_bytes}
use Rattle.intake.proofs.LastingLemmas.{one_or_two}
use Rattle.intake.proofs.RecordedLemmas.{record_fits, record_full, state_recorded}

-- labels that are compared
pub labels_same : (a b : List ℕ) → bytes_eq a b ≡ true → a ≡ b
labels_same a b e = (bytes_eq-Decides a b).0 e

pub labels_differ : (a b : List ℕ) → bytes_eq a b ≡ false → a ≢ b
labels_differ a b e same = false≢true (sym e ∙ (bytes_eq-Decides a b).1 same)

-- a version that is read and is not 1
pub two_is : (v w : ℕ) → v ≡ w → is_known v ≡ true → v ≢ 1 → w ≡ 2
two_is v w same known other = ⊎_elim (λ one. absurd (other one)) (λ two. sym same ∙ two) (one_or_two v known)

-- in version 2 the journal's step is the append of a record
pub label_append : (j j' : Journaled) (seq : ℕ) (text : List ℕ) (r : Result (Unit {0}) JournalFault) → j.standing.version ≡ 2 → JournalStep j seq text r j' → AppendStep j (Label seq text) r j'
label_append j j' seq text (Ok u) two step = step.1
label_append j j' seq text (Err journal_fault.Stopped) two step = step
label_append j j' seq text (Err journal_fault.JournalFull) two step = step.1
label_append j j' seq text (Err journal_fault.NumbersSpent) two step = step.1
label_append j j' seq text (Err journal_fault.OutOfMemory) two step = step.1
label_append j j' seq text (Err journal_fault.Disk) two step = step.1
label_append j j' seq text (Err journal_fault.OldVersion) two step = absurd (let one = step.1 in omega (arith, one, two))

-- a case with another label is not one whose label stands already
pub label_differs : (seq : ℕ) (text : List ℕ) (cases : List Case) (c x : Case) → Some c ≡ case_numbered seq cases → c.label ≢ text → case_numbered seq cases ≡ Some x → x.label ≡ text → ⊥
label_differs seq text cases c x found differs at is =
    differs (ap (λ (y : Case). y.label) (inside (found ∙ at)) ∙ is)
  where
    inside : Some c ≡ Some x → c ≡ x
    inside e = cc

module _ {D : Type 0} (g : disk.Ghosts D) (d d' : D) (j j' : Journaled) (most : ℕ) (flags : List Bool) (streams streams' : List (Option StreamParts)) (b b' : Bool) (seq : ℕ) (text : List ℕ) (c : Case)
    (sound : IsArchiveSound g d j most flags streams b) (on : b ≡ false) (found : Some c ≡ case_numbered seq j.standing.cases) where
  abbrev old : Parts D
  old = record { disk = d; journal = j; limit = most; streams = streams; stopped = b }

  abbrev new : Parts D
  new = record { disk = d'; journal = j'; limit = most; streams = streams'; stopped = b' }

  has : HasCase (state_of old) seq c
  has = (on, sym found)

  pub label_may : IsLabel text → MayLabel j.standing seq text
  label_may label = ((c, sym found), label)

  pub label_follows : IsLabel text → j.standing.version ≡ 2 → MayFollow j.standing (Label seq text)
  label_follows label two = label_sound j.standing.shape.data_blocks (folded_of j.standing) seq text (sound.runs on).cases two (c, sym found) label

  -- version 1 keeps none
  pub label_old : j.standing.version ≡ 1 → LabelStep (state_of old) seq text (Err (fault_of journal_fault.OldVersion)) (state_of old)
  label_old one = (c, has, one, refl)

  -- it stands already
  pub label_same : (u : Unit {0}) → j.standing.version ≡ 2 → c.label ≡ text → LabelStep (state_of old) seq text (Ok u) (state_of old)
  label_same u two same = (c, (has, two), inl (same, refl))

  -- it is set
  pub label_ok : (u : Unit {0}) → j.standing.version ≡ 2 → c.label ≢ text → AppendStep j (Label seq text) (Ok u) j'
      → LabelStep (state_of old) seq text (Ok u) (state_of (record { disk = d'; journal = j'; limit = most; streams = streams; stopped = b }))
  label_ok u two other step = (
    c,
    (has, two),
    inr (
      other,
      record_fits d d' j (Label seq text) most streams b step.1,
      ap (λ (k : Journaled). state_of (record { disk = d'; journal = k; limit = most; streams = streams; stopped = b })) step.2
          ∙ state_recorded d d' j (Label seq text) most streams b,
    ),
  )

  pub label_err : (jf : JournalFault) → j.standing.version ≡ 2 → c.label ≢ text → AppendStep j (Label seq text) (Err jf) j' → EndsStreams (fault_of jf) streams b' streams'
      → LabelStep (state_of old) seq text (Err (fault_of jf)) (state_of new)
  label_err journal_fault.Stopped two other step ends = absurd (let e : true ≡ false = sym step.0 ∙ (sound.runs on).journal in cc)
  label_err journal_fault.JournalFull two other step ends = (c, (has, two), other, record_full d d' j (Label seq text) most streams b step.1, same_state g d d' j j' (Label seq text) most flags streams streams' b b' on ends.0 ends.1 step.2)
  label_err journal_fault.NumbersSpent two other step ends = absurd step
  label_err journal_fault.OutOfMemory two other step ends = (c, (has, two), other, record_fits d d' j (Label seq text) most streams b step.1, same_state g d d' j j' (Label seq text) most flags streams streams' b b' on ends.0 ends.1 step.2)
  label_err journal_fault.Disk two other step ends = (c, (has, two), other, record_fits d d' j (Label seq text) most streams b step.1, halted_now g d d' j j' (Label seq text) most flags streams streams' b b' on ends.0 ends.1 step.2)
  label_err journal_fault.OldVersion two other step ends = absurd step

  pub label_sound_after : (u : Unit {0}) → IsLabel text → j.standing.version ≡ 2 → AppendStep j (Label seq text) (Ok u) j' → Guards g d' j' → IsArchiveSound g d' j' most flags streams b
  label_sound_after u label two step keeps =
      subst (λ (k : Journaled). IsArchiveSound g d' k most flags streams b) (sym step.2)
      (sound_after g d d' j (Label seq text) most flags flags streams b sound on (subst (Guards g d') step.2 keeps) (label_follows label two) refl
      (λ k. (let x : case_uses (with_label seq text j.standing.cases) k ≡ uses_in k (used_blocks (with_label seq text j.standing.cases)) = case_uses_same k (with_label seq text j.standing.cases) in
      let y : case_uses j.standing.cases k ≡ uses_in k (used_blocks j.standing.cases) = case_uses_same k j.standing.cases in
      let e = ap (uses_in k) (used_labelled seq text j.standing.cases) in
      omega (arith, x, y, e)))
      (let x : length (used_blocks (with_label seq text j.standing.cases)) ≡ case_blocks (with_label seq text j.standing.cases) = used_length (with_label seq text j.standing.cases) in
      let y : length (used_blocks j.standing.cases) ≡ case_blocks j.standing.cases = used_length j.standing.cases in
      let e = ap length (used_labelled seq text j.standing.cases) in omega (arith, x, y, e))
      (λ name. (let n : cases_named (with_label seq text j.standing.cases) name ≡ cases_named j.standing.cases name = named_labelled seq text j.standing.cases name in omega (arith, n))))

  pub label_bytes : (u : Unit {0}) → AppendStep j (Label seq text) (Ok u) j' → SameOutside 4096 (2 * half_length j.standing.shape) (g.seen d) (g.seen d')
      → contents_of g.seen (record { disk = d'; journal = j'; limit = most; streams = streams; stopped = b }) ≡ contents_of g.seen old
  label_bytes u step outside =
      ap (λ (k : Journaled). contents_of g.seen (record { disk = d'; journal = k; limit = most; streams = streams; stopped = b })) step.2
      ∙ ap (λ (x : List (List ℕ)). record { images = x; taken = map (option_map (taken_in j (g.seen d'))) streams }) (images_made (held_image j.standing.shape (g.seen d')) (labelled_as seq text) (label_moves_none j.standing.shape (g.seen d') seq text) j.standing.cases)
      ∙ same_bytes g.seen d d' j most streams b outside b
