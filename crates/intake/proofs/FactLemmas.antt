-- A stream that stays open stays of the same image, whatever calls are made.
use Rattle.std.proofs.Common.{◌≡◌, ◌≢◌, ◌<◌, ℕ, List, [], ◌∷◌, ◌++◌, length, arith, refl, sym, ap, ◌∙◌, ⊎_elim, inl, inr, Option, None, Some, Result, Ok, Err}
use Rattle.std.specs.Prelude.{IsTrue, option_map, slice_set}
use Rattle.std.proofs.lemmas.List.{length-map}
use Rattle.std.proofs.lemmas.Bool.{cases_eq}
use Rattle.disk_model.specs.declared.disk.Disk as disk
use Rattle.intake.specs.Contents.{Contents, Taken, empty_taken}
use Rattle.intake.specs.Durable.{Durable, FoundCase, durable_of, found_with}
use Rattle.intake.specs.Lending.{with_room}
use Rattle.intake.specs.Making.{Call, ReplyTo, Makes, Made, AreMade, StaysOpen, IsCaseOf, archive_after, taken_over, begin_in, lend_of, advance_by, finish_of, abandon_of, delete_of, pin_of, label_of, upgrade_it, retire_by, image_of, find_case, list_cases, count_free, ask_version, ask_stopped}
use Rattle.intake.specs.Parts.{Parts, state_of, stream_facts, contents_of, taken_in}
use Rattle.intake.specs.Room.{room_left}
use Rattle.intake.specs.Slots.{stream_at, closed}
use Rattle.intake.specs.State.{ArchiveState, StreamFacts}
use Rattle.intake.specs.Step.{longer, case_from}
use Rattle.intake.specs.declared.faults.ArchiveFault.{ArchiveFault}
use Rattle.intake.specs.declared.faults.ArchiveFault.TheVariants as fault
use Rattle.intake.proofs.LastsLemmas.{finish_lasts}
use Rattle.intake.proofs.MakingLemmas.{set_there, set_elsewhere, set_within, none_closed, at_map, some_of, some_is, taken_all}

-- the same stream, but for its length
abbrev pub IsSameStream : StreamFacts → StreamFacts → Type 0
IsSameStream b c = c ≡ record b { len = c.len; blocks = c.blocks }

abbrev Keeps : ArchiveState → ArchiveState → ℕ → StreamFacts → Type 0
Keeps old new slot b = (c : StreamFacts) × (stream_at new.streams slot ≡ Some c) × IsSameStream b c

abbrev IsOpen : ArchiveState → ℕ → Type 0
IsOpen s slot = stream_at s.streams slot ≡ None → ⊥

module _ (old new : ArchiveState) (slot : ℕ) (b : StreamFacts) (is : stream_at old.streams slot ≡ Some b) where
  kept_same : new.streams ≡ old.streams → Keeps old new slot b
  kept_same same = (b, ap (λ (xs : List (Option StreamFacts)). stream_at xs slot) same ∙ is, refl)

  kept_other : (at : ℕ) (o : Option StreamFacts) → at ≢ slot → new.streams ≡ slice_set old.streams at o → Keeps old new slot b
  kept_other at o ne set = (b, ap (λ (xs : List (Option StreamFacts)). stream_at xs slot) set ∙ set_elsewhere old.streams at slot o ne ∙ is, refl)

  kept_gone : (at : ℕ) → IsOpen new slot → new.streams ≡ slice_set old.streams at None → Keeps old new slot b
  kept_gone at there set =
      elim (cases_eq at slot) as (λ _. Keeps old new slot b) [
        | inl e ↦ absurd (there (ap (λ (xs : List (Option StreamFacts)). stream_at xs slot) (set ∙ ap (λ (k : ℕ). slice_set old.streams k None) e) ∙ set_there old.streams slot None b is))
        | inr ne ↦ kept_other at None ne set
      ]

  kept_closed : IsOpen new slot → new.streams ≡ closed old.streams → Keeps old new slot b
  kept_closed there shut = absurd (there (ap (λ (xs : List (Option StreamFacts)). stream_at xs slot) shut ∙ none_closed old.streams slot))

  kept_longer : (at n : ℕ) (s : StreamFacts) (blocks : List ℕ) → stream_at old.streams at ≡ Some s → new.streams ≡ slice_set old.streams at (Some (longer s n blocks)) → Keeps old new slot b
  kept_longer at n s blocks there set =
      elim (cases_eq at slot) as (λ _. Keeps old new slot b) [
        | inl e ↦ (
            let same : s ≡ b = some_is s b (sym there ∙ ap (stream_at old.streams) e ∙ is) in (
              longer b n blocks,
              ap (λ (xs : List (Option StreamFacts)). stream_at xs slot) (set ∙ ap (λ (k : ℕ). slice_set old.streams k (Some (longer s n blocks))) e) ∙ set_there old.streams slot (Some (longer s n blocks)) b is ∙ ap (λ (x : StreamFacts). Some (longer x n blocks)) same,
              refl,
            )
            )
        | inr ne ↦ kept_other at (Some (longer s n blocks)) ne set
      ]

module _ {D : Type 0} (g : disk.Ghosts D) where
  -- what is lent is bytes alone
  kept_lent : (old new : Parts D) (at slot : ℕ) (r : Result (Unit {0}) ArchiveFault) (left : List ℕ) (b : StreamFacts) → stream_at (state_of old).streams slot ≡ Some b → new ≡ room_left old at r left
      → Keeps (state_of old) (state_of new) slot b
  kept_lent old new at slot (Err f) left b is now = kept_same (state_of old) (state_of new) slot b is (ap (λ (a : Parts D). (state_of a).streams) now)
  kept_lent old new at slot (Ok u) left b is now =
      let there = some_of stream_facts (stream_at old.streams slot) b (sym (at_map stream_facts old.streams slot) ∙ is) in (
        b,
        ap (λ (a : Parts D). stream_at (state_of a).streams slot) now
            ∙ at_map stream_facts (slice_set old.streams at (option_map (with_room left) (stream_at old.streams at))) slot
            ∙ (elim (cases_eq at slot) as (λ _. option_map stream_facts (stream_at (slice_set old.streams at (option_map (with_room left) (stream_at old.streams at))) slot) ≡ Some b) [
              | inl e ↦ ap (λ (k : ℕ). option_map stream_facts (stream_at (slice_set old.streams k (option_map (with_room left) (stream_at old.streams k))) slot)) e
                  ∙ ap (option_map stream_facts) (set_there old.streams slot (option_map (with_room left) (stream_at old.streams slot)) there.0 there.1 ∙ ap (option_map (with_room left)) there.1)
                  ∙ ap (λ (x : StreamFacts). Some x) there.2
              | inr ne ↦ ap (option_map stream_facts) (set_elsewhere old.streams at slot (option_map (with_room left) (stream_at old.streams at)) ne ∙ there.1) ∙ ap (λ (x : StreamFacts). Some x) there.2
            ]),
        refl,
      )

  abbrev streams_are : (a : ArchiveState) (b : ArchiveState) → a ≡ b → a.streams ≡ b.streams
  streams_are a b e = ap (λ (x : ArchiveState). x.streams) e

  kept_facts : (old new : Parts D) (call : Call) (r : ReplyTo call) (slot : ℕ) (b : StreamFacts) → Makes g old call r new → stream_at (state_of old).streams slot ≡ Some b → IsOpen (state_of new) slot → Keeps (state_of old) (state_of new) slot b
  kept_facts old new (begin_in at s) (Ok u) slot b made is there =
      kept_other (state_of old) (state_of new) slot b is at (Some (record s { len = 0; blocks = [] })) (λ e. (let none : None ≡ Some b = sym (ap (stream_at (state_of old).streams) (sym e) ∙ made.step.0.2) ∙ is in cc)) (streams_are _ _ made.step.1)
  kept_facts old new (begin_in at s) (Err fault.Stopped) slot b made is there = kept_same (state_of old) (state_of new) slot b is (streams_are _ _ made.step.1)
  kept_facts old new (begin_in at s) (Err fault.BadSlot) slot b made is there = kept_same (state_of old) (state_of new) slot b is (streams_are _ _ made.step.2)
  kept_facts old new (begin_in at s) (Err fault.SlotBusy) slot b made is there = kept_same (state_of old) (state_of new) slot b is (streams_are _ _ made.step.3)
  kept_facts old new (begin_in at s) (Err fault.NameTaken) slot b made is there = kept_same (state_of old) (state_of new) slot b is (streams_are _ _ made.step.4)
  kept_facts old new (begin_in at s) (Err fault.OutOfMemory) slot b made is there = kept_same (state_of old) (state_of new) slot b is (streams_are _ _ made.step.1)
  kept_facts old new (begin_in at s) (Err _) slot b made is there = absurd made.step
  kept_facts old new (lend_of at left) r slot b made is there = kept_lent old new at slot r left b is made.2
  kept_facts old new (advance_by at n) (Ok u) slot b made is there = kept_longer (state_of old) (state_of new) slot b is at n made.step.0 made.step.3 made.step.1.1 (streams_are _ _ made.step.4)
  kept_facts old new (advance_by at n) (Err fault.Stopped) slot b made is there = kept_same (state_of old) (state_of new) slot b is (streams_are _ _ made.step.1)
  kept_facts old new (advance_by at n) (Err fault.NoStream) slot b made is there = kept_same (state_of old) (state_of new) slot b is (streams_are _ _ made.step.2)
  kept_facts old new (advance_by at n) (Err fault.TooLong) slot b made is there = kept_gone (state_of old) (state_of new) slot b is at there (streams_are _ _ made.step.4)
  kept_facts old new (advance_by at n) (Err fault.SpaceFull) slot b made is there = kept_gone (state_of old) (state_of new) slot b is at there (streams_are _ _ made.step.3)
  kept_facts old new (advance_by at n) (Err fault.OutOfMemory) slot b made is there = kept_gone (state_of old) (state_of new) slot b is at there (streams_are _ _ made.step.3)
  kept_facts old new (advance_by at n) (Err fault.Disk) slot b made is there = kept_closed (state_of old) (state_of new) slot b is there (streams_are _ _ made.step.3)
  kept_facts old new (advance_by at n) (Err _) slot b made is there = absurd made.step
  kept_facts old new (finish_of at) (Ok seq) slot b made is there = kept_gone (state_of old) (state_of new) slot b is at there (streams_are _ _ made.step.7)
  kept_facts old new (finish_of at) (Err fault.Stopped) slot b made is there = kept_same (state_of old) (state_of new) slot b is (streams_are _ _ made.step.1)
  kept_facts old new (finish_of at) (Err fault.NoStream) slot b made is there = kept_same (state_of old) (state_of new) slot b is (streams_are _ _ made.step.2)
  kept_facts old new (finish_of at) (Err fault.SpaceFull) slot b made is there = kept_gone (state_of old) (state_of new) slot b is at there (streams_are _ _ made.step.5)
  kept_facts old new (finish_of at) (Err fault.JournalFull) slot b made is there = kept_gone (state_of old) (state_of new) slot b is at there (streams_are _ _ made.step.5)
  kept_facts old new (finish_of at) (Err fault.NumbersSpent) slot b made is there = kept_gone (state_of old) (state_of new) slot b is at there (streams_are _ _ made.step.6)
  kept_facts old new (finish_of at) (Err fault.OutOfMemory) slot b made is there = kept_gone (state_of old) (state_of new) slot b is at there (streams_are _ _ made.step.2)
  kept_facts old new (finish_of at) (Err fault.Disk) slot b made is there = kept_closed (state_of old) (state_of new) slot b is there (streams_are _ _ made.step.2)
  kept_facts old new (finish_of at) (Err _) slot b made is there = absurd made.step
  kept_facts old new (abandon_of at) (Ok u) slot b made is there = kept_gone (state_of old) (state_of new) slot b is at there (streams_are _ _ made.step.2)
  kept_facts old new (abandon_of at) (Err fault.Stopped) slot b made is there = kept_same (state_of old) (state_of new) slot b is (streams_are _ _ made.step.1)
  kept_facts old new (abandon_of at) (Err fault.NoStream) slot b made is there = kept_same (state_of old) (state_of new) slot b is (streams_are _ _ made.step.2)
  kept_facts old new (abandon_of at) (Err _) slot b made is there = absurd made.step
  kept_facts old new (delete_of seq) (Ok u) slot b made is there = kept_same (state_of old) (state_of new) slot b is (streams_are _ _ made.step.4)
  kept_facts old new (delete_of seq) (Err fault.Stopped) slot b made is there = kept_same (state_of old) (state_of new) slot b is (streams_are _ _ made.step.1)
  kept_facts old new (delete_of seq) (Err fault.NoCase) slot b made is there = kept_same (state_of old) (state_of new) slot b is (streams_are _ _ made.step.2)
  kept_facts old new (delete_of seq) (Err fault.Pinned) slot b made is there = kept_same (state_of old) (state_of new) slot b is (streams_are _ _ made.step.3)
  kept_facts old new (delete_of seq) (Err fault.JournalFull) slot b made is there = kept_same (state_of old) (state_of new) slot b is (streams_are _ _ made.step.4)
  kept_facts old new (delete_of seq) (Err fault.OutOfMemory) slot b made is there = kept_same (state_of old) (state_of new) slot b is (streams_are _ _ made.step.4)
  kept_facts old new (delete_of seq) (Err fault.Disk) slot b made is there = kept_closed (state_of old) (state_of new) slot b is there (streams_are _ _ made.step.4)
  kept_facts old new (delete_of seq) (Err _) slot b made is there = absurd made.step
  kept_facts old new (pin_of seq flag) (Ok u) slot b made is there =
      kept_same (state_of old) (state_of new) slot b is (⊎_elim (λ kept. streams_are _ _ kept.1) (λ set. streams_are _ _ set.2) made.step.2)
  kept_facts old new (pin_of seq flag) (Err fault.Stopped) slot b made is there = kept_same (state_of old) (state_of new) slot b is (streams_are _ _ made.step.1)
  kept_facts old new (pin_of seq flag) (Err fault.NoCase) slot b made is there = kept_same (state_of old) (state_of new) slot b is (streams_are _ _ made.step.2)
  kept_facts old new (pin_of seq flag) (Err fault.JournalFull) slot b made is there = kept_same (state_of old) (state_of new) slot b is (streams_are _ _ made.step.4)
  kept_facts old new (pin_of seq flag) (Err fault.OutOfMemory) slot b made is there = kept_same (state_of old) (state_of new) slot b is (streams_are _ _ made.step.4)
  kept_facts old new (pin_of seq flag) (Err fault.Disk) slot b made is there = kept_closed (state_of old) (state_of new) slot b is there (streams_are _ _ made.step.4)
  kept_facts old new (pin_of seq flag) (Err _) slot b made is there = absurd made.step
  kept_facts old new (label_of seq text) (Ok u) slot b made is there =
      kept_same (state_of old) (state_of new) slot b is (⊎_elim (λ kept. streams_are _ _ kept.1) (λ set. streams_are _ _ set.2) made.step.2)
  kept_facts old new (label_of seq text) (Err fault.Stopped) slot b made is there = kept_same (state_of old) (state_of new) slot b is (streams_are _ _ made.step.1)
  kept_facts old new (label_of seq text) (Err fault.NoCase) slot b made is there = kept_same (state_of old) (state_of new) slot b is (streams_are _ _ made.step.2)
  kept_facts old new (label_of seq text) (Err fault.OldVersion) slot b made is there = kept_same (state_of old) (state_of new) slot b is (streams_are _ _ made.step.3)
  kept_facts old new (label_of seq text) (Err fault.JournalFull) slot b made is there = kept_same (state_of old) (state_of new) slot b is (streams_are _ _ made.step.4)
  kept_facts old new (label_of seq text) (Err fault.OutOfMemory) slot b made is there = kept_same (state_of old) (state_of new) slot b is (streams_are _ _ made.step.4)
  kept_facts old new (label_of seq text) (Err fault.Disk) slot b made is there = kept_closed (state_of old) (state_of new) slot b is there (streams_are _ _ made.step.4)
  kept_facts old new (label_of seq text) (Err _) slot b made is there = absurd made.step
  kept_facts old new upgrade_it (Ok u) slot b made is there =
      kept_same (state_of old) (state_of new) slot b is (⊎_elim (λ kept. streams_are _ _ kept.1) (λ set. streams_are _ _ set.2) made.step.1)
  kept_facts old new upgrade_it (Err fault.Stopped) slot b made is there = kept_same (state_of old) (state_of new) slot b is (streams_are _ _ made.step.1)
  kept_facts old new upgrade_it (Err fault.JournalFull) slot b made is there = kept_same (state_of old) (state_of new) slot b is (streams_are _ _ made.step.2)
  kept_facts old new upgrade_it (Err fault.OutOfMemory) slot b made is there = kept_same (state_of old) (state_of new) slot b is (streams_are _ _ made.step.2)
  kept_facts old new upgrade_it (Err fault.Disk) slot b made is there = kept_closed (state_of old) (state_of new) slot b is there (streams_are _ _ made.step.2)
  kept_facts old new upgrade_it (Err _) slot b made is there = absurd made.step
  kept_facts old new (retire_by policy) (Ok d) slot b made is there =
      kept_same (state_of old) (state_of new) slot b is (⊎_elim (λ kept. streams_are _ _ kept.1) (λ gone. streams_are _ _ gone.2) made.step.2)
  kept_facts old new (retire_by policy) (Err fault.Stopped) slot b made is there = kept_same (state_of old) (state_of new) slot b is (streams_are _ _ made.step.1)
  kept_facts old new (retire_by policy) (Err fault.JournalFull) slot b made is there = kept_same (state_of old) (state_of new) slot b is (streams_are _ _ made.step.4)
  kept_facts old new (retire_by policy) (Err fault.OutOfMemory) slot b made is there = kept_same (state_of old) (state_of new) slot b is (streams_are _ _ made.step.1)
  kept_facts old new (retire_by policy) (Err fault.Disk) slot b made is there = kept_closed (state_of old) (state_of new) slot b is there (streams_are _ _ made.step.4)
  kept_facts old new (retire_by policy) (Err _) slot b made is there = absurd made.step
  kept_facts old new (image_of seq) (Ok v) slot b made is there = kept_same (state_of old) (state_of new) slot b is (streams_are _ _ made.step.2)
  kept_facts old new (image_of seq) (Err fault.Stopped) slot b made is there = kept_same (state_of old) (state_of new) slot b is (streams_are _ _ made.step.1)
  kept_facts old new (image_of seq) (Err fault.NoCase) slot b made is there = kept_same (state_of old) (state_of new) slot b is (streams_are _ _ made.step.2)
  kept_facts old new (image_of seq) (Err fault.OutOfMemory) slot b made is there = kept_same (state_of old) (state_of new) slot b is (streams_are _ _ made.step.2)
  kept_facts old new (image_of seq) (Err fault.Disk) slot b made is there = kept_closed (state_of old) (state_of new) slot b is there (streams_are _ _ made.step.2)
  kept_facts old new (image_of seq) (Err _) slot b made is there = absurd made.step
  kept_facts old new (find_case at) r slot b made is there = kept_same (state_of old) (state_of new) slot b is (ap (λ (a : Parts D). (state_of a).streams) made.1)
  kept_facts old new list_cases r slot b made is there = kept_same (state_of old) (state_of new) slot b is (ap (λ (a : Parts D). (state_of a).streams) made.1)
  kept_facts old new count_free r slot b made is there = kept_same (state_of old) (state_of new) slot b is (ap (λ (a : Parts D). (state_of a).streams) made.1)
  kept_facts old new ask_version r slot b made is there = kept_same (state_of old) (state_of new) slot b is (ap (λ (a : Parts D). (state_of a).streams) made.1)
  kept_facts old new ask_stopped r slot b made is there = kept_same (state_of old) (state_of new) slot b is (ap (λ (a : Parts D). (state_of a).streams) made.1)

  -- over a run of calls
  pub facts_over : (a : Parts D) (slot : ℕ) (b : StreamFacts) (made : List (Made D)) → AreMade g a made → stream_at (state_of a).streams slot ≡ Some b → StaysOpen slot made
      → (c : StreamFacts) × (stream_at (state_of (archive_after a made)).streams slot ≡ Some c) × IsSameStream b c
  facts_over a slot b [] all is stays = (b, is, refl)
  facts_over a slot b (m ∷ ms) all is stays =
      let here = kept_facts a m.archive m.call m.reply slot b all.0 is stays.0 in
      let rest = facts_over m.archive slot here.0 ms all.1 here.1 stays.1 in
      (rest.0, rest.1, rest.2 ∙ ap (λ (x : StreamFacts). record x { len = rest.0.len; blocks = rest.0.blocks }) here.2)

  -- a stream that becomes a case, with what it took as its image
  pub image_taken : (old begun : Parts D) (slot : ℕ) (s : StreamFacts) (u : Unit {0}) (made : List (Made D)) (new : Parts D) (seq : ℕ) → IsTrue (g.is_honest old.disk)
      → Makes g old (begin_in slot s) (Ok u) begun → AreMade g begun made → StaysOpen slot made → Makes g (archive_after begun made) (finish_of slot) (Ok seq) new
      → (c : FoundCase) × IsCaseOf s seq (taken_over g.seen slot begun made) c × ((durable_of g.seen new).cases ≡ (durable_of g.seen (archive_after begun made)).cases ++ c ∷ [])
  image_taken old begun slot s u made new seq honest begin all stays finish =
      let last : Parts D = archive_after begun made in
      let low = begin.step.0.1 in
      let below : slot < length (contents_of g.seen old).taken =
      omega (arith, low, length-map old.streams (option_map stream_facts), length-map old.streams (option_map (taken_in old.journal (g.seen old.disk)))) in
      let first : stream_at (contents_of g.seen begun).taken slot ≡ Some empty_taken =
      ap (λ (c : Contents). stream_at c.taken slot) begin.bytes ∙ set_within g (contents_of g.seen old).taken slot (Some empty_taken) below in
      let stream : stream_at (state_of begun).streams slot ≡ Some (record s { len = 0; blocks = [] }) =
      ap (λ (x : ArchiveState). stream_at x.streams slot) begin.step.1 ∙ set_within g (state_of old).streams slot (Some (record s { len = 0; blocks = [] })) low in
      let taken = taken_all g begun slot empty_taken made (begin.stays.honesty ∙ honest) all first stays in
      let facts = facts_over begun slot (record s { len = 0; blocks = [] }) made all stream stays in
      let lasts = finish_lasts g last new taken.3 slot seq finish in
      let same : lasts.1.1 ≡ taken.0 = some_is lasts.1.1 taken.0 (sym lasts.1.3 ∙ taken.1) in
      let told : lasts.1.0 ≡ record s { len = facts.0.len; blocks = facts.0.blocks } = some_is lasts.1.0 facts.0 (sym lasts.1.2 ∙ facts.1) ∙ facts.2 in (
        found_with (case_from lasts.1.0 (durable_of g.seen last).next lasts.0) lasts.1.1.bytes,
        record {
          number = sym finish.step.6;
          origin = ap (λ (x : StreamFacts). x.origin) told;
          unpinned = refl;
          unlabelled = refl;
          image = ap (λ (x : Taken). x.bytes) same ∙ taken.2;
        },
        ap (λ (x : Durable). x.cases) lasts.1.5,
      )
