-- How a stream becomes a case.
use Rattle.std.proofs.Common.{◌≡◌, ◌≢◌, ⊎_elim, ℕ, ◌+◌, ◌%◌, ◌<◌, Bool, true, false, cond, List, [], ◌∷◌, length, map, refl, sym, ap, ◌∙◌, subst, arith, Option, None, Some, Ok, Err}
use Rattle.std.specs.Prelude.{option_map, slice_set, nat_lt}
use Rattle.std.specs.List.{list_any, count_by}
use Rattle.std.specs.Str.{bytes_eq}
use Rattle.std.proofs.lemmas.Bool.{or_from}
use Rattle.std.proofs.lemmas.Slice.Eq.{bytes_eq-Decides}
use Rattle.std.proofs.lemmas.List.Sums.{sum_by-cons}
use Rattle.disk_model.specs.declared.disk.Disk as disk
use Rattle.extents.specs.FreeSet.{free_count, uses, one_if}
use Rattle.extents.specs.FreeLaws.{uses_append}
use Rattle.journal_layout.specs.Case.{Case}
use Rattle.journal_layout.specs.Folding.{used_blocks}
use Rattle.journal_layout.specs.Soundness.{IsStorable, blocks_for}
use Rattle.case_journal.specs.Journaled.{Journaled}
use Rattle.intake.specs.declared.faults.ArchiveFault.{ArchiveFault}
use Rattle.intake.specs.declared.faults.ArchiveFault.TheVariants as fault
use Rattle.intake.specs.Balance.{Balances}
use Rattle.extents.specs.Runs.{runs_of}
use Rattle.extents.specs.RunLaws.{runs_no_more, runs_some}
use Rattle.std.proofs.lemmas.List.{length-set, map-set}
use Rattle.journal_layout.specs.Standing.{store_of}
use Rattle.intake.specs.State.{StreamFacts}
use Rattle.case_journal.specs.Append.{StoreRefused}
use Rattle.intake.specs.Guarding.{Guards}
use Rattle.case_journal.specs.declared.faults.JournalFault.{JournalFault}
use Rattle.case_journal.specs.declared.faults.JournalFault.TheVariants as journal_fault
use Rattle.intake.specs.Faults.{fault_of}
use Rattle.intake.specs.Closing.{ClosesStream, Appends, with_blocks}
use Rattle.intake.specs.Ending.{EndsStreams}
use Rattle.intake.specs.Growth.{AddsLowest}
use Rattle.intake.proofs.LowestLemmas.{closed_fills}
use Rattle.intake.specs.Live.{case_uses}
use Rattle.intake.specs.Parts.{Parts, StreamParts, state_of, stream_facts}
use Rattle.intake.specs.Slots.{stream_at}
use Rattle.intake.specs.Sound.{IsArchiveSound, IsRunning, IsFine, IsFineIfOpen, held_by, is_called}
use Rattle.intake.specs.Step.{FinishStep, MayFinish, MayHaveRuns, cases_with, record_size, recorded, with_stream}
use Rattle.intake.specs.StreamView.{case_from_parts}
use Rattle.intake.proofs.AdvanceLemmas.{gone_state, halted_state, free_is, sound_refused}
use Rattle.intake.proofs.CountLemmas.{uses_same, one_if_le, in_range}
use Rattle.intake.proofs.SoundLemmas.{slot_below, sound_halted, fine_at, part_of_sum, named_in}
use Rattle.intake.proofs.LiveLemmas.{sound_stored}
use Rattle.intake.proofs.RecordedLemmas.{record_fits, record_full, state_recorded}
use Rattle.intake.proofs.StepLemmas.{some_there}

none_named : (P : Case → Bool) (cases : List Case) → count_by P cases ≡ 0 → list_any P cases ≡ false
none_named P [] e = refl
none_named P (c ∷ rest) e =
    let s = sum_by-cons (λ (x : Case). cond (P x) 1 0) c rest in
    or_from (P c) (list_any P rest) (not_so (P c) (omega (arith, s, e))) (none_named P rest (omega (arith, s, e)))
  where
    not_so : (t : Bool) → one_if t ≡ 0 → t ≡ false
    not_so true h = absurd (omega (arith, h))
    not_so false h = refl

used_are : (k : ℕ) (cases : List Case) → uses (used_blocks cases) k ≡ case_uses cases k
used_are k [] = refl
used_are k (c ∷ rest) =
    let s = sum_by-cons (λ (x : Case). uses x.blocks k) c rest in
    omega (arith, s, uses_append c.blocks (used_blocks rest) k, used_are k rest)

module _ {D : Type 0} (g : disk.Ghosts D) (d d' : D) (j : Journaled) (most : ℕ) (flags : List Bool) (streams : List (Option StreamParts)) (slot : ℕ) (s : StreamParts) (b : Bool)
    (running : IsRunning g d j most flags streams) (on : b ≡ false) (is : stream_at streams slot ≡ Some s) where
  abbrev before : Parts D
  before = record { disk = d; journal = j; limit = most; streams = streams; stopped = b }

  -- the bytes that fill no block take the lowest one
  abbrev TakesLast : StreamParts → Type 0
  TakesLast s' = (s.facts.len % 4096 ≢ 0) → AddsLowest flags s.facts.blocks s'.facts.blocks

  may : ((s.facts.len % 4096 ≢ 0) → 0 < free_count flags) → MayFinish (state_of before) slot s.facts
  may there = (on, some_there streams slot s is, (λ over full. (let lt = there over in let f = free_is g d d' j most flags streams slot 0 s b running on is in omega (arith, lt, full, f))))

  -- the seal was refused
  pub seal_err : (b' : Bool) (dropped streams' : List (Option StreamParts)) (s' : StreamParts) (f : ArchiveFault) → dropped ≡ slice_set streams slot None → EndsStreams f dropped b' streams' → ClosesStream (free_count flags) s (Err f) s'
      → FinishStep (state_of before) slot (Err f) (state_of (record { disk = d'; journal = j; limit = most; streams = streams'; stopped = b' }))
  seal_err b' dropped streams' s' fault.SpaceFull gone ends closes = (
    s.facts,
    on,
    some_there streams slot s is,
    closes.0,
    (let e = closes.1 in let f = free_is g d d' j most flags streams slot 0 s b running on is in omega (arith, e, f)),
    gone_state g d d' j most flags streams slot 0 s b running on is b' dropped streams' gone ends.0 ends.1,
  )
  seal_err b' dropped streams' s' fault.OutOfMemory gone ends closes = (s.facts, may (λ over. closes.1), gone_state g d d' j most flags streams slot 0 s b running on is b' dropped streams' gone ends.0 ends.1)
  seal_err b' dropped streams' s' fault.Disk gone ends closes = (s.facts, may closes, halted_state g d d' j most flags streams slot 0 s b running on is b' dropped streams' gone ends.0 ends.1)
  seal_err b' dropped streams' s' _ gone ends closes = absurd closes

  pub seal_not_stopped : (s' : StreamParts) (f : ArchiveFault) → ClosesStream (free_count flags) s (Err f) s' → f ≡ fault.Stopped → ⊥
  seal_not_stopped s' f closes e = let x = subst (λ (h : ArchiveFault). ClosesStream (free_count flags) s (Err h) s') e closes in absurd x

  pub seal_not_missing : (s' : StreamParts) (f : ArchiveFault) → ClosesStream (free_count flags) s (Err f) s' → f ≡ fault.NoStream → ⊥
  seal_not_missing s' f closes e = let x = subst (λ (h : ArchiveFault). ClosesStream (free_count flags) s (Err h) s') e closes in absurd x

  fine_is : IsFine most s
  fine_is = subst (IsFineIfOpen most) is (fine_at most streams slot running.streams_fine)

  -- the case that the stream becomes: its facts, and the blocks that it has now
  pub closed_case : (s' : StreamParts) (u : Unit {0}) → ClosesStream (free_count flags) s (Ok u) s' → case_from_parts s' ≡ case_from_parts (with_blocks s s'.facts.blocks)
  closed_case s' u closes = ⊎_elim
      (λ h. h.1 ∙ ap (λ (x : List ℕ). case_from_parts (with_blocks s x)) (sym (ap (λ (c : Case). c.blocks) h.1)))
      (λ h. h.3) closes

  closed_enough : (s' : StreamParts) (u : Unit {0}) → ClosesStream (free_count flags) s (Ok u) s' → length s'.facts.blocks ≡ blocks_for s.facts.len
  closed_enough s' u closes = let fill = fine_is.filled in ⊎_elim
      (λ h. (let e = ap (λ (c : Case). length c.blocks) h.1 in let z = h.0 in omega (arith, e, fill, z)))
      (λ h. (let e = h.2 in let z = h.0 in omega (arith, e, fill, z))) closes

  -- it may be stored
  pub storable : (flags' : List Bool) (s' : StreamParts) (u : Unit {0}) → ClosesStream (free_count flags) s (Ok u) s' → Balances flags s.facts.blocks flags' s'.facts.blocks
      → IsStorable j.standing.shape.data_blocks j.standing.cases (case_from_parts s')
  storable flags' s' u closes bal =
      let fine = fine_is in
      subst (IsStorable j.standing.shape.data_blocks j.standing.cases) (sym (closed_case s' u closes)) (record {
        origin = fine.origin;
        new_name = none_named (λ (c : Case). bytes_eq c.origin.name s.facts.origin.name) j.standing.cases
            (let n = running.named s.facts.origin.name in let m = named_in s.facts.origin.name streams slot in
            let e = ap (λ (o : Option StreamParts). one_if (is_called s.facts.origin.name o)) is in
            let same : one_if (bytes_eq s.facts.origin.name s.facts.origin.name) ≡ 1 = ap one_if ((bytes_eq-Decides s.facts.origin.name s.facts.origin.name).1 refl) in
            omega (arith, n, m, e, same));
        bytes = fine.small;
        enough = closed_enough s' u closes;
        spare = λ k some. (
            let h = running.once k in
            let p = part_of_sum k streams slot in
            let e = ap (λ (o : Option StreamParts). uses (held_by o) k) is in
            let q = bal.each k in
            let here = uses_same k s'.facts.blocks in
            let there = uses_same k (used_blocks j.standing.cases) in
            let are = used_are k j.standing.cases in
            let most_one = one_if_le (nat_lt k j.standing.shape.data_blocks) in
            (in_range k j.standing.shape.data_blocks (omega (arith, h, p, e, q, here, some)), omega (arith, h, p, e, q, here, some, most_one), omega (arith, h, p, e, q, here, there, are, some, most_one)));
        no_label = refl;
      })

  -- how many runs it may lie in
  pub runs_may : (s' : StreamParts) (u : Unit {0}) → ClosesStream (free_count flags) s (Ok u) s' → MayHaveRuns s.facts.len (length (runs_of s'.facts.blocks))
  runs_may s' u closes =
      let e = closed_enough s' u closes in (
        omega (arith, e, runs_no_more s'.facts.blocks),
        (λ some. runs_some s'.facts.blocks (omega (arith, e, some))),
      )

  there_is : (s' : StreamParts) (u : Unit {0}) → ClosesStream (free_count flags) s (Ok u) s' → (s.facts.len % 4096 ≢ 0) → 0 < free_count flags
  there_is s' u closes over = ⊎_elim (λ h. absurd (over h.0)) (λ h. h.1) closes

  gone_with : (j' : Journaled) (b' : Bool) (dropped streams' : List (Option StreamParts)) → dropped ≡ slice_set streams slot None → b' ≡ false → streams' ≡ dropped → j' ≡ j
      → state_of (record { disk = d'; journal = j'; limit = most; streams = streams'; stopped = b' }) ≡ with_stream (state_of before) slot None
  gone_with j' b' dropped streams' gone still same now =
      ap (λ (k : Journaled). state_of (record { disk = d'; journal = k; limit = most; streams = streams'; stopped = b' })) now
      ∙ gone_state g d d' j most flags streams slot 0 s b running on is b' dropped streams' gone still same

  -- the record was refused
  store_err : (j' : Journaled) (b' : Bool) (dropped streams' : List (Option StreamParts)) (s' : StreamParts) (u : Unit {0}) (jf : JournalFault) → dropped ≡ slice_set streams slot None → EndsStreams (fault_of jf) dropped b' streams'
      → ClosesStream (free_count flags) s (Ok u) s' → TakesLast s' → StoreRefused j (case_from_parts (with_blocks s s'.facts.blocks)) jf j'
      → FinishStep (state_of before) slot (Err (fault_of jf)) (state_of (record { disk = d'; journal = j'; limit = most; streams = streams'; stopped = b' }))
  store_err j' b' dropped streams' s' u journal_fault.Stopped gone ends closes lowest refused = absurd (let e : true ≡ false = sym refused.0 ∙ running.journal in cc)
  store_err j' b' dropped streams' s' u journal_fault.JournalFull gone ends closes lowest refused = (
    s.facts,
    s'.facts.blocks,
    may (there_is s' u closes),
    runs_may s' u closes,
    record_full d d' j (store_of j.standing (case_from_parts (with_blocks s s'.facts.blocks))) most streams b refused.1,
    gone_with j' b' dropped streams' gone ends.0 ends.1 refused.2,
    closed_fills g d j most flags streams slot s b running is (free_count flags) s' u closes lowest,
  )
  store_err j' b' dropped streams' s' u journal_fault.NumbersSpent gone ends closes lowest refused = (
    s.facts,
    s'.facts.blocks,
    may (there_is s' u closes),
    runs_may s' u closes,
    record_fits d d' j (store_of j.standing (case_from_parts (with_blocks s s'.facts.blocks))) most streams b refused.1,
    refused.2,
    gone_with j' b' dropped streams' gone ends.0 ends.1 refused.3,
    closed_fills g d j most flags streams slot s b running is (free_count flags) s' u closes lowest,
  )
  store_err j' b' dropped streams' s' u journal_fault.OutOfMemory gone ends closes lowest refused = (s.facts, may (there_is s' u closes), gone_with j' b' dropped streams' gone ends.0 ends.1 refused.3)
  store_err j' b' dropped streams' s' u journal_fault.Disk gone ends closes lowest refused = (
    s.facts,
    may (there_is s' u closes),
    ap (λ (k : Journaled). state_of (record { disk = d'; journal = k; limit = most; streams = streams'; stopped = b' })) refused.3
        ∙ halted_state g d d' j most flags streams slot 0 s b running on is b' dropped streams' gone ends.0 ends.1,
  )
  store_err j' b' dropped streams' s' u journal_fault.OldVersion gone ends closes lowest refused = absurd refused

  pub refused_step : (j' : Journaled) (b' : Bool) (dropped streams' : List (Option StreamParts)) (s' : StreamParts) (u : Unit {0}) (f : ArchiveFault) (c : Case) → dropped ≡ slice_set streams slot None → EndsStreams f dropped b' streams'
      → ClosesStream (free_count flags) s (Ok u) s' → TakesLast s' → c ≡ case_from_parts s' → Appends j c (Err f) j'
      → FinishStep (state_of before) slot (Err f) (state_of (record { disk = d'; journal = j'; limit = most; streams = streams'; stopped = b' }))
  refused_step j' b' dropped streams' s' u f c gone ends closes lowest same appends =
      subst (λ (x : ArchiveFault). FinishStep (state_of before) slot (Err x) (state_of (record { disk = d'; journal = j'; limit = most; streams = streams'; stopped = b' }))) (sym appends.1)
      (store_err j' b' dropped streams' s' u appends.0 gone (subst (λ (x : ArchiveFault). EndsStreams x dropped b' streams') appends.1 ends) closes lowest
      (subst (λ (x : Case). StoreRefused j x appends.0 j') (same ∙ closed_case s' u closes) appends.2))

  unmoved : (j' : Journaled) (b' : Bool) (flags' : List Bool) (dropped streams' : List (Option StreamParts)) (f : ArchiveFault) → IsArchiveSound g d j most flags streams b → dropped ≡ slice_set streams slot None → EndsStreams f dropped b' streams'
      → j' ≡ j → Guards g d' j' → Balances flags s.facts.blocks flags' [] → IsArchiveSound g d' j' most flags' streams' b'
  unmoved j' b' flags' dropped streams' f sound gone ends now keeps bal =
      subst (λ (k : Journaled). IsArchiveSound g d' k most flags' streams' b') (sym now)
      (sound_refused g d d' j most flags flags' streams dropped streams' slot s b b' f sound on is gone (subst (Guards g d') now keeps) bal ends)

  -- the archive stays sound
  sound_unstored : (j' : Journaled) (b' : Bool) (flags' : List Bool) (dropped streams' : List (Option StreamParts)) (jf : JournalFault) (c : Case) → IsArchiveSound g d j most flags streams b → dropped ≡ slice_set streams slot None → EndsStreams (fault_of jf) dropped b' streams'
      → StoreRefused j c jf j' → Guards g d' j' → Balances flags s.facts.blocks flags' [] → IsArchiveSound g d' j' most flags' streams' b'
  sound_unstored j' b' flags' dropped streams' journal_fault.Disk c sound gone ends refused keeps bal =
      subst (λ (t : Bool). IsArchiveSound g d' j' most flags' streams' t) (sym ends.0)
      (subst (λ (x : List (Option StreamParts)). IsArchiveSound g d' j' most flags' x true) (sym ends.1)
      (sound_halted g d d' j j' most flags flags' streams dropped b sound keeps (ap (λ (k : Journaled). k.standing.shape) refused.3) (ap length gone ∙ length-set streams slot None)))
  sound_unstored j' b' flags' dropped streams' journal_fault.Stopped c sound gone ends refused keeps bal = absurd (let e : true ≡ false = sym refused.0 ∙ running.journal in cc)
  sound_unstored j' b' flags' dropped streams' journal_fault.JournalFull c sound gone ends refused keeps bal = unmoved j' b' flags' dropped streams' fault.JournalFull sound gone ends refused.2 keeps bal
  sound_unstored j' b' flags' dropped streams' journal_fault.NumbersSpent c sound gone ends refused keeps bal = unmoved j' b' flags' dropped streams' fault.NumbersSpent sound gone ends refused.3 keeps bal
  sound_unstored j' b' flags' dropped streams' journal_fault.OutOfMemory c sound gone ends refused keeps bal = unmoved j' b' flags' dropped streams' fault.OutOfMemory sound gone ends refused.3 keeps bal
  sound_unstored j' b' flags' dropped streams' journal_fault.OldVersion c sound gone ends refused keeps bal = absurd refused

  pub sound_not_stored : (j' : Journaled) (b' : Bool) (flags' : List Bool) (dropped streams' : List (Option StreamParts)) (f : ArchiveFault) (c : Case) → IsArchiveSound g d j most flags streams b → dropped ≡ slice_set streams slot None → EndsStreams f dropped b' streams'
      → Appends j c (Err f) j' → Guards g d' j' → Balances flags s.facts.blocks flags' [] → IsArchiveSound g d' j' most flags' streams' b'
  sound_not_stored j' b' flags' dropped streams' f c sound gone ends appends keeps bal =
      sound_unstored j' b' flags' dropped streams' appends.0 c sound gone (subst (λ (x : ArchiveFault). EndsStreams x dropped b' streams') appends.1 ends) appends.2 keeps bal

  -- the stream became the last case
  store_ok : (j' : Journaled) (streams' : List (Option StreamParts)) (s' : StreamParts) (u : Unit {0}) (seq : ℕ) → streams' ≡ slice_set streams slot None → ClosesStream (free_count flags) s (Ok u) s' → TakesLast s'
      → Appends j (case_from_parts (with_blocks s s'.facts.blocks)) (Ok seq) j'
      → FinishStep (state_of before) slot (Ok seq) (state_of (record { disk = d'; journal = j'; limit = most; streams = streams'; stopped = b }))
  store_ok j' streams' s' u seq gone closes lowest a = (
    s.facts,
    s'.facts.blocks,
    may (there_is s' u closes),
    runs_may s' u closes,
    record_fits d d' j (store_of j.standing (case_from_parts (with_blocks s s'.facts.blocks))) most streams b a.1,
    a.2,
    a.3,
    ap (λ (k : Journaled). state_of (record { disk = d'; journal = k; limit = most; streams = streams'; stopped = b })) a.4
        ∙ state_recorded d d' j (store_of j.standing (case_from_parts (with_blocks s s'.facts.blocks))) most streams' b
        ∙ ap (λ (x : List (Option StreamFacts)).
        record (recorded (record (state_of before) { streams = x }) (record_size s.facts.origin.name (length (runs_of s'.facts.blocks))) (cases_with (state_of before) s.facts s'.facts.blocks)) { next = j.standing.next + 1 })
        (ap (map (option_map stream_facts)) gone ∙ map-set (option_map stream_facts) streams slot None),
    closed_fills g d j most flags streams slot s b running is (free_count flags) s' u closes lowest,
  )

  pub stored_step : (j' : Journaled) (streams' : List (Option StreamParts)) (s' : StreamParts) (u : Unit {0}) (seq : ℕ) (c : Case) → streams' ≡ slice_set streams slot None → ClosesStream (free_count flags) s (Ok u) s' → TakesLast s' → c ≡ case_from_parts s'
      → Appends j c (Ok seq) j' → FinishStep (state_of before) slot (Ok seq) (state_of (record { disk = d'; journal = j'; limit = most; streams = streams'; stopped = b }))
  stored_step j' streams' s' u seq c gone closes lowest same appends =
      store_ok j' streams' s' u seq gone closes lowest (subst (λ (x : Case). Appends j x (Ok seq) j') (same ∙ closed_case s' u closes) appends)

  -- the archive stays sound with the new case, where a number is positive
  pub sound_with_case : (j' : Journaled) (flags1 flags' : List Bool) (streams' : List (Option StreamParts)) (s' : StreamParts) (u : Unit {0}) (seq : ℕ) (c : Case) → IsArchiveSound g d j most flags streams b → streams' ≡ slice_set streams slot None
      → ClosesStream (free_count flags) s (Ok u) s' → Balances flags s.facts.blocks flags1 s'.facts.blocks → flags' ≡ flags1 → c ≡ case_from_parts s' → Appends j c (Ok seq) j' → Guards g d' j' → IsArchiveSound g d' j' most flags' streams' b
  sound_with_case j' flags1 flags' streams' s' u seq c sound gone closes bal same is_case appends keeps =
      let e = is_case ∙ closed_case s' u closes in
      let a = subst (λ (x : Case). Appends j x (Ok seq) j') e appends in
      sound_stored g d d' j j' most flags flags' streams streams' slot s b (case_from_parts (with_blocks s s'.facts.blocks)) sound on (slot_below g d j most flags streams slot s b sound is) is gone keeps a.4 a.2
      (subst (λ (f : List Bool). Balances flags s.facts.blocks f s'.facts.blocks) (sym same) bal)
      (subst (IsStorable j.standing.shape.data_blocks j.standing.cases) (closed_case s' u closes) (storable flags1 s' u closes bal)) refl
