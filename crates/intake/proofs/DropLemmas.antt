-- How cases are dropped.
use Rattle.std.proofs.Common.{◌≡◌, ℕ, ◌*◌, ◌+◌, Bool, true, false, not, cond, List, [], ◌∷◌, length, map, refl, sym, ap, ◌∙◌, subst, arith, Option, Some, Result, Ok, Err}
use Rattle.std.specs.Prelude.{option_map, nat_lt}
use Rattle.disk_model.specs.Places.{SameOutside}
use Rattle.disk_model.specs.declared.disk.Disk as disk
use Rattle.extents.specs.FreeSet.{one_if}
use Rattle.journal_layout.specs.Case.{Case}
use Rattle.journal_layout.specs.Folding.{is_among, dropped, used_blocks}
use Rattle.journal_layout.specs.Layout.{half_length}
use Rattle.journal_layout.specs.Live.{gone}
use Rattle.journal_layout.specs.LiveCounts.{case_uses_same, used_length, used_dropped, named_dropped}
use Rattle.journal_layout.specs.LiveFinds.{live_number, drop_sound}
use Rattle.journal_layout.specs.LiveLaws.{uses_dropped}
use Rattle.journal_layout.specs.Record.{Record, Drop}
use Rattle.journal_layout.specs.Soundness.{case_numbered, uses as uses_in}
use Rattle.journal_layout.specs.Standing.{folded_of}
use Rattle.case_journal.specs.Append.{AppendStep, MayFollow}
use Rattle.case_journal.specs.Journaled.{Journaled}
use Rattle.intake.specs.Guarding.{Guards}
use Rattle.case_journal.specs.declared.faults.JournalFault.{JournalFault}
use Rattle.case_journal.specs.declared.faults.JournalFault.TheVariants as journal_fault
use Rattle.intake.specs.Balance.{AreHeld, Balances}
use Rattle.intake.specs.Blocks.{image_in}
use Rattle.intake.specs.Contents.{Contents, DropBytes, images_without}
use Rattle.intake.specs.Ending.{EndsStreams}
use Rattle.intake.specs.Faults.{fault_of}
use Rattle.intake.specs.Live.{case_uses, cases_named}
use Rattle.intake.specs.Parts.{Parts, StreamParts, state_of, contents_of, taken_in}
use Rattle.intake.specs.Sound.{IsArchiveSound, IsRunning, case_blocks}
use Rattle.intake.specs.State.{ArchiveState}
use Rattle.intake.specs.Step.{DropStep, DeleteStep, HasCase}
use Rattle.intake.specs.declared.faults.ArchiveFault.{ArchiveFault}
use Rattle.intake.specs.declared.faults.ArchiveFault.TheVariants as fault
use Rattle.intake.proofs.CountLemmas.{uses_same}
use Rattle.intake.proofs.AfterLemmas.{sound_after, same_state, halted_now, same_bytes}
use Rattle.intake.proofs.RecordedLemmas.{record_fits, record_full, state_recorded}

-- the images of the cases that are left
images_left : (f : Case → List ℕ) (seqs : List ℕ) (cases : List Case) → map f (dropped seqs cases) ≡ images_without seqs cases (map f cases)
images_left f seqs [] = refl
images_left f seqs (c ∷ rest) =
    elim (is_among seqs c.seq) as (λ t. map f (cond (not t) (c ∷ dropped seqs rest) (dropped seqs rest))
    ≡ cond t (images_without seqs rest (map f rest)) (f c ∷ images_without seqs rest (map f rest))) [
      | true ↦ images_left f seqs rest
      | false ↦ ap (λ (l : List (List ℕ)). f c ∷ l) (images_left f seqs rest)
    ]

module _ {D : Type 0} (g : disk.Ghosts D) (d d' : D) (j j' : Journaled) (most : ℕ) (flags : List Bool) (streams streams' : List (Option StreamParts)) (b b' : Bool) (seqs : List ℕ)
    (sound : IsArchiveSound g d j most flags streams b) (on : b ≡ false) where
  abbrev old : Parts D
  old = record { disk = d; journal = j; limit = most; streams = streams; stopped = b }

  abbrev new : Parts D
  new = record { disk = d'; journal = j'; limit = most; streams = streams'; stopped = b' }

  -- the blocks of the dropped cases are held
  pub drop_held : AreHeld flags (used_blocks (gone seqs j.standing.cases))
  drop_held k =
      let was = sound.runs on in
      let o = was.once k in
      let l = ap (λ (n : ℕ). one_if (nat_lt k n)) was.blocks in
      let y : case_uses j.standing.cases k ≡ uses_in k (used_blocks j.standing.cases) = case_uses_same k j.standing.cases in
      let p = uses_dropped k seqs j.standing.cases in
      let z = uses_same k (used_blocks (gone seqs j.standing.cases)) in
      omega (arith, o, l, y, p, z)

  pub drop_ok : (u : Unit {0}) → AppendStep j (Drop seqs) (Ok u) j' → DropStep (state_of old) seqs (Ok u) (state_of (record { disk = d'; journal = j'; limit = most; streams = streams; stopped = b }))
  drop_ok u step = (
    record_fits d d' j (Drop seqs) most streams b step.1,
    ap (λ (k : Journaled). state_of (record { disk = d'; journal = k; limit = most; streams = streams; stopped = b })) step.2
        ∙ state_recorded d d' j (Drop seqs) most streams b,
  )

  pub drop_err : (jf : JournalFault) → AppendStep j (Drop seqs) (Err jf) j' → EndsStreams (fault_of jf) streams b' streams' → DropStep (state_of old) seqs (Err (fault_of jf)) (state_of new)
  drop_err journal_fault.Stopped step ends = absurd (let e : true ≡ false = sym step.0 ∙ (sound.runs on).journal in cc)
  drop_err journal_fault.JournalFull step ends = (record_full d d' j (Drop seqs) most streams b step.1, same_state g d d' j j' (Drop seqs) most flags streams streams' b b' on ends.0 ends.1 step.2)
  drop_err journal_fault.NumbersSpent step ends = absurd step
  drop_err journal_fault.OutOfMemory step ends = (record_fits d d' j (Drop seqs) most streams b step.1, same_state g d d' j j' (Drop seqs) most flags streams streams' b b' on ends.0 ends.1 step.2)
  drop_err journal_fault.Disk step ends = (record_fits d d' j (Drop seqs) most streams b step.1, halted_now g d d' j j' (Drop seqs) most flags streams streams' b b' on ends.0 ends.1 step.2)
  drop_err journal_fault.OldVersion step ends = absurd step

  pub drop_sound_after : (flags' : List Bool) (u : Unit {0}) → MayFollow j.standing (Drop seqs) → AppendStep j (Drop seqs) (Ok u) j' → Guards g d' j' → Balances flags (used_blocks (gone seqs j.standing.cases)) flags' []
      → IsArchiveSound g d' j' most flags' streams b
  drop_sound_after flags' u may step keeps bal =
      subst (λ (k : Journaled). IsArchiveSound g d' k most flags' streams b) (sym step.2)
      (sound_after g d d' j (Drop seqs) most flags flags' streams b sound on (subst (Guards g d') step.2 keeps) may bal.long
      (λ k. (let x : case_uses (dropped seqs j.standing.cases) k ≡ uses_in k (used_blocks (dropped seqs j.standing.cases)) = case_uses_same k (dropped seqs j.standing.cases) in
      let y : case_uses j.standing.cases k ≡ uses_in k (used_blocks j.standing.cases) = case_uses_same k j.standing.cases in
      let p = uses_dropped k seqs j.standing.cases in
      let z = uses_same k (used_blocks (gone seqs j.standing.cases)) in
      let e = bal.each k in
      omega (arith, x, y, p, z, e)))
      (let x : length (used_blocks (dropped seqs j.standing.cases)) ≡ case_blocks (dropped seqs j.standing.cases) = used_length (dropped seqs j.standing.cases) in
      let y : length (used_blocks j.standing.cases) ≡ case_blocks j.standing.cases = used_length j.standing.cases in
      let p = used_dropped seqs j.standing.cases in
      let a = bal.all in
      omega (arith, x, y, p, a))
      (λ name. (let n : cases_named (dropped seqs j.standing.cases) name + cases_named (gone seqs j.standing.cases) name ≡ cases_named j.standing.cases name = named_dropped seqs j.standing.cases name in omega (arith, n))))

  pub drop_bytes : (u : Unit {0}) → AppendStep j (Drop seqs) (Ok u) j' → SameOutside 4096 (2 * half_length j.standing.shape) (g.seen d) (g.seen d')
      → DropBytes (state_of old) (contents_of g.seen old) seqs (Ok u) (contents_of g.seen (record { disk = d'; journal = j'; limit = most; streams = streams; stopped = b }))
  drop_bytes u step outside =
      ap (λ (k : Journaled). contents_of g.seen (record { disk = d'; journal = k; limit = most; streams = streams; stopped = b })) step.2
      ∙ ap (λ (x : List (List ℕ)). record { images = x; taken = map (option_map (taken_in j (g.seen d'))) streams })
      (images_left (λ (c : Case). image_in j.standing.shape (g.seen d') c.blocks c.len) seqs j.standing.cases)
      ∙ ap (λ (x : Contents). record { images = images_without seqs j.standing.cases x.images; taken = x.taken }) (same_bytes g.seen d d' j most streams b outside b)

-- one case is deleted
pub delete_step : (s : ArchiveState) (seq : ℕ) (c : Case) (r : Result (Unit {0}) ArchiveFault) (after : ArchiveState) → HasCase s seq c → c.pinned ≡ false → DropStep s (seq ∷ []) r after → DeleteStep s seq r after
delete_step s seq c (Ok u) after has free step = (c, has, free, step.0, step.1)
delete_step s seq c (Err fault.JournalFull) after has free step = (c, has, free, step.0, step.1)
delete_step s seq c (Err fault.OutOfMemory) after has free step = (c, has, free, step.0, step.1)
delete_step s seq c (Err fault.Disk) after has free step = (c, has, free, step.0, step.1)
delete_step s seq c (Err fault.Stopped) after has free step = absurd step
delete_step s seq c (Err fault.BadSlot) after has free step = absurd step
delete_step s seq c (Err fault.SlotBusy) after has free step = absurd step
delete_step s seq c (Err fault.NameTaken) after has free step = absurd step
delete_step s seq c (Err fault.NoStream) after has free step = absurd step
delete_step s seq c (Err fault.TooLong) after has free step = absurd step
delete_step s seq c (Err fault.SpaceFull) after has free step = absurd step
delete_step s seq c (Err fault.NoCase) after has free step = absurd step
delete_step s seq c (Err fault.Pinned) after has free step = absurd step
delete_step s seq c (Err fault.NumbersSpent) after has free step = absurd step
delete_step s seq c (Err fault.OldVersion) after has free step = absurd step

-- a live case that is not pinned may be dropped by itself
pub delete_may : {D : Type 0} (g : disk.Ghosts D) (d : D) (j : Journaled) (most : ℕ) (flags : List Bool) (streams : List (Option StreamParts)) (seq : ℕ) (c : Case)
    → IsRunning g d j most flags streams → Some c ≡ case_numbered seq j.standing.cases → c.pinned ≡ false → MayFollow j.standing (Drop (seq ∷ []))
delete_may g d j most flags streams seq c running found free =
    let live = running.cases in
    let number = live_number j.standing.shape.data_blocks j.standing.cases j.standing.next seq c live (sym found) in
    drop_sound j.standing.shape.data_blocks (folded_of j.standing) (seq ∷ []) live (omega arith) (omega (arith, number.0), tt) ((c, sym found, free), tt)

-- what the journal shows after a refusal are the same cases
pub still_cases : (j j' : Journaled) (r : Record) (jf : JournalFault) → AppendStep j r (Err jf) j' → j'.standing.cases ≡ j.standing.cases
still_cases j j' r journal_fault.Stopped step = ap (λ (k : Journaled). k.standing.cases) step.1
still_cases j j' r journal_fault.JournalFull step = ap (λ (k : Journaled). k.standing.cases) step.2
still_cases j j' r journal_fault.NumbersSpent step = absurd step
still_cases j j' r journal_fault.OutOfMemory step = ap (λ (k : Journaled). k.standing.cases) step.2
still_cases j j' r journal_fault.Disk step = ap (λ (k : Journaled). k.standing.cases) step.2
still_cases j j' r journal_fault.OldVersion step = absurd step
