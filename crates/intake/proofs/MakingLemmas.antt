-- Runs of calls, and what they take.
use Rattle.std.proofs.Common.{◌≡◌, ◌≢◌, ℕ, zero, suc, ◌%◌, ◌≤◌, ◌==◌, Bool, cond, List, [], ◌∷◌, ◌++◌, length, take, drop, map, refl, sym, ap, subst, ◌∙◌, inl, inr, arith, Option, None, Some, Result, Ok, Err}
use Rattle.std.specs.List.{AllByRecursion}
use Rattle.std.specs.Prelude.{IsTrue, option_map, slice_set}
use Rattle.std.proofs.lemmas.Bool.{cases_eq, eq-eqb, ne_eqb}
use Rattle.std.proofs.Common.{append_assoc}
use Rattle.std.proofs.Common.{◌<◌}
use Rattle.std.proofs.lemmas.List.{append-nil}
use Rattle.disk_model.specs.declared.disk.Disk as disk
use Rattle.intake.specs.Blocks.{joined}
use Rattle.intake.specs.Contents.{Contents, Taken, RefusedBytes, UnmovedBytes, advanced, empty_taken}
use Rattle.intake.specs.Durable.{Durable, durable_of}
use Rattle.intake.specs.Lending.{with_room}
use Rattle.intake.specs.Making.{Call, ReplyTo, Makes, Made, AreMade, AreMarks, WouldLeave, archive_after, free_bytes, newly_doubted, taken_by, taken_over, StaysOpen, begin_in, lend_of, advance_by, finish_of, abandon_of, delete_of, pin_of, label_of, upgrade_it, retire_by, image_of, find_case, list_cases, count_free, ask_version, ask_stopped}
use Rattle.intake.specs.Marks.{Mark, Passes, IsRunOfMarks, mark_of}
use Rattle.intake.specs.Parts.{Parts, StreamParts, state_of, stream_facts, contents_of, taken_in}
use Rattle.intake.specs.Room.{room_left}
use Rattle.intake.specs.Slots.{stream_at, closed}
use Rattle.intake.specs.StayLaws.{stays_still, stays_as}
use Rattle.intake.specs.declared.faults.ArchiveFault.{ArchiveFault}
use Rattle.intake.specs.declared.faults.ArchiveFault.TheVariants as fault
use Rattle.intake.proofs.MarkLemmas.{stays_lead, finish_leads, delete_leads, pin_leads, label_leads, upgrade_leads, retire_leads}

-- what a lent part leaves of an archive that is no stream's
room_disk : {D : Type 0} (a : Parts D) (slot : ℕ) (r : Result (Unit {0}) ArchiveFault) (left : List ℕ) → (room_left a slot r left).disk ≡ a.disk
room_disk a slot (Ok u) left = refl
room_disk a slot (Err f) left = refl

pub room_durable : {D : Type 0} (seen : D → List ℕ) (a : Parts D) (slot : ℕ) (r : Result (Unit {0}) ArchiveFault) (left : List ℕ) → durable_of seen (room_left a slot r left) ≡ durable_of seen a
room_durable seen a slot (Ok u) left = refl
room_durable seen a slot (Err f) left = refl

module _ {D : Type 0} (g : disk.Ghosts D) (counts : (d : D) (t : ℕ) (c : List ℕ) → t ≤ g.clock d → g.may_leave d c → g.left_since d t c)
    (only : (d : D) (c : List ℕ) → g.left_since d (g.clock d) c → g.may_leave d c) where
  -- a call leads from mark to mark
  abbrev OneMark : Parts D → List Durable → (call : Call) → ReplyTo call → Parts D → Type 0
  OneMark old before call r new =
      (more : List Durable) × AllByRecursion (WouldLeave g old call) more × Passes g (mark_of g.seen old before) (mark_of g.seen new (newly_doubted call r more ++ before))

  one_mark : (old : Parts D) (before : List Durable) (call : Call) (r : ReplyTo call) (new : Parts D) → Makes g old call r new → OneMark old before call r new
  one_mark old before (begin_in slot s) r new made = ([], tt, stays_lead g counts only old new before made.stays)
  one_mark old before (lend_of slot left) r new made = (
    [],
    tt,
    stays_lead g counts only old new before
        (stays_still g old new (ap (λ (a : Parts D). a.disk) made.2 ∙ room_disk old slot r left) (ap (durable_of g.seen) made.2 ∙ room_durable g.seen old slot r left)),
  )
  one_mark old before (advance_by slot n) r new made = ([], tt, stays_lead g counts only old new before made.stays)
  one_mark old before (finish_of slot) r new made = finish_leads g counts only old new slot r made before
  one_mark old before (abandon_of slot) r new made = ([], tt, stays_lead g counts only old new before made.stays)
  one_mark old before (delete_of seq) r new made = delete_leads g counts only old new seq r made before
  one_mark old before (pin_of seq flag) r new made = pin_leads g counts only old new seq flag r made before
  one_mark old before (label_of seq text) r new made = label_leads g counts only old new seq text r made before
  one_mark old before upgrade_it r new made = upgrade_leads g counts only old new r made before
  one_mark old before (retire_by policy) r new made = retire_leads g counts only old new policy r made before
  one_mark old before (image_of seq) r new made = ([], tt, stays_lead g counts only old new before made.stays)
  one_mark old before (find_case seq) r new made = ([], tt, stays_lead g counts only old new before (stays_as g old new made.1))
  one_mark old before list_cases r new made = ([], tt, stays_lead g counts only old new before (stays_as g old new made.1))
  one_mark old before count_free r new made = ([], tt, stays_lead g counts only old new before (stays_as g old new made.1))
  one_mark old before ask_version r new made = ([], tt, stays_lead g counts only old new before (stays_as g old new made.1))
  one_mark old before ask_stopped r new made = ([], tt, stays_lead g counts only old new before (stays_as g old new made.1))

  pub calls_are_marks : (a : Parts D) (before : List Durable) (made : List (Made D)) → AreMade g a made
      → (marks : List (Mark D)) × AreMarks g a before made marks × IsRunOfMarks g (mark_of g.seen a before) marks
  calls_are_marks a before [] all = ([], tt, tt)
  calls_are_marks a before (m ∷ ms) all =
      let here = one_mark a before m.call m.reply m.archive all.0 in
      let doubts : List Durable = newly_doubted m.call m.reply here.0 ++ before in
      let rest = calls_are_marks m.archive doubts ms all.1 in
      (mark_of g.seen m.archive doubts ∷ rest.0, (here.0, here.1, refl, rest.1), (here.2, rest.2))

-- What stands in a slot.
pub set_there : {X : Type 0} (xs : List (Option X)) (slot : ℕ) (o : Option X) (x : X) → stream_at xs slot ≡ Some x → stream_at (slice_set xs slot o) slot ≡ o
set_there [] slot o x is = let e : None ≡ Some x = is in cc
set_there (y ∷ ys) zero o x is = refl
set_there (y ∷ ys) (suc slot) o x is = set_there ys slot o x is

pub set_elsewhere : {X : Type 0} (xs : List (Option X)) (at slot : ℕ) (o : Option X) → at ≢ slot → stream_at (slice_set xs at o) slot ≡ stream_at xs slot
set_elsewhere [] at slot o ne = refl
set_elsewhere (y ∷ ys) zero zero o ne = absurd (ne refl)
set_elsewhere (y ∷ ys) zero (suc slot) o ne = refl
set_elsewhere (y ∷ ys) (suc at) zero o ne = refl
set_elsewhere (y ∷ ys) (suc at) (suc slot) o ne = set_elsewhere ys at slot o (λ e. ne (ap suc e))

pub none_closed : {X : Type 0} (xs : List (Option X)) (slot : ℕ) → stream_at (closed xs) slot ≡ None
none_closed [] slot = refl
none_closed (y ∷ ys) zero = refl
none_closed (y ∷ ys) (suc slot) = none_closed ys slot

pub at_map : {X Y : Type 0} (f : X → Y) (xs : List (Option X)) (slot : ℕ) → stream_at (map (option_map f) xs) slot ≡ option_map f (stream_at xs slot)
at_map f [] slot = refl
at_map f (y ∷ ys) zero = refl
at_map f (y ∷ ys) (suc slot) = at_map f ys slot

none_is : {X Y : Type 0} (f : X → Y) (o : Option X) → option_map f o ≡ None → o ≡ None
none_is f None is = refl
none_is f (Some x) is = let e : Some (f x) ≡ None = is in cc

pub some_of : {X Y : Type 0} (f : X → Y) (o : Option X) (y : Y) → option_map f o ≡ Some y → (x : X) × (o ≡ Some x) × (f x ≡ y)
some_of f None y is = let e : None ≡ Some y = is in cc
some_of f (Some x) y is = (x, refl, inside is)
  where
    inside : Some (f x) ≡ Some y → f x ≡ y
    inside e = cc

pub some_is : {X : Type 0} (x y : X) → Some x ≡ Some y → x ≡ y
some_is x y e = cc

-- the first bytes of a block stay when the rest is lent
take_empty : (k : ℕ) → take {A = ℕ} k [] ≡ []
take_empty zero = refl
take_empty (suc k) = refl

take_kept : (u : ℕ) (x y : List ℕ) → take u (take (length x) (take u x ++ y)) ≡ take u x
take_kept u [] y = ap (λ (z : List ℕ). take u (take 0 (z ++ y))) (take_empty u)
take_kept zero (b ∷ x) y = refl
take_kept (suc u) (b ∷ x) y = ap (λ (z : List ℕ). b ∷ z) (take_kept u x y)

with_room_bytes : {D : Type 0} (seen : D → List ℕ) (a : Parts D) (s : StreamParts) (left : List ℕ)
    → (taken_in a.journal (seen a.disk) (with_room left s)).bytes ≡ (taken_in a.journal (seen a.disk) s).bytes
with_room_bytes seen a s left = ap (λ (x : List ℕ). joined a.journal.standing.shape (seen a.disk) s.facts.blocks ++ x) (take_kept (s.facts.len % 4096) s.block (left ++ drop (length left) (drop (s.facts.len % 4096) s.block)))

-- What a call makes of a stream that is open before it and behind it.
abbrev Keeps : Contents → Contents → ℕ → Taken → List ℕ → Type 0
Keeps old new slot t more = (t' : Taken) × (stream_at new.taken slot ≡ Some t') × (t'.bytes ≡ t.bytes ++ more)

-- nothing is taken
kept_as : (old new : Contents) (slot : ℕ) (t : Taken) → stream_at new.taken slot ≡ Some t → Keeps old new slot t []
kept_as old new slot t is = (t, is, sym (append-nil t.bytes))

kept_same : (old new : Contents) (slot : ℕ) (t : Taken) → stream_at old.taken slot ≡ Some t → new ≡ old → Keeps old new slot t []
kept_same old new slot t is same = kept_as old new slot t (ap (λ (c : Contents). stream_at c.taken slot) same ∙ is)

-- the streams are what they were
kept_streams : (old new : Contents) (slot : ℕ) (t : Taken) → stream_at old.taken slot ≡ Some t → new.taken ≡ old.taken → Keeps old new slot t []
kept_streams old new slot t is same = kept_as old new slot t (ap (λ (xs : List (Option Taken)). stream_at xs slot) same ∙ is)

-- another slot's stream, or this slot's is gone
kept_other : (old new : Contents) (at slot : ℕ) (o : Option Taken) (t : Taken) → stream_at old.taken slot ≡ Some t → new.taken ≡ slice_set old.taken at o → at ≢ slot → Keeps old new slot t []
kept_other old new at slot o t is set ne = kept_as old new slot t (ap (λ (xs : List (Option Taken)). stream_at xs slot) set ∙ set_elsewhere old.taken at slot o ne ∙ is)

gone_there : (old new : Contents) (at slot : ℕ) (t : Taken) → stream_at old.taken slot ≡ Some t → new.taken ≡ slice_set old.taken at None → at ≡ slot → stream_at new.taken slot ≡ None
gone_there old new at slot t is set e =
    ap (λ (xs : List (Option Taken)). stream_at xs slot) (set ∙ ap (λ (k : ℕ). slice_set old.taken k None) e) ∙ set_there old.taken slot None t is

dropped_at : (old new : Contents) (at slot : ℕ) (t : Taken) → stream_at old.taken slot ≡ Some t → (stream_at new.taken slot ≡ None → ⊥) → new.taken ≡ slice_set old.taken at None → Keeps old new slot t []
dropped_at old new at slot t is stays set =
    elim (cases_eq at slot) as (λ _. Keeps old new slot t []) [
      | inl e ↦ absurd (stays (gone_there old new at slot t is set e))
      | inr ne ↦ kept_other old new at slot None t is set ne
    ]

closed_all : (old new : Contents) (slot : ℕ) (t : Taken) → (stream_at new.taken slot ≡ None → ⊥) → new.taken ≡ closed old.taken → Keeps old new slot t []
closed_all old new slot t stays shut = absurd (stays (ap (λ (xs : List (Option Taken)). stream_at xs slot) shut ∙ none_closed old.taken slot))

kept_refused : (old new : Contents) (at slot : ℕ) (f : ArchiveFault) (t : Taken) → stream_at old.taken slot ≡ Some t → (stream_at new.taken slot ≡ None → ⊥) → RefusedBytes old at f new → Keeps old new slot t []
kept_refused old new at slot fault.Stopped t is stays bytes = kept_same old new slot t is bytes
kept_refused old new at slot fault.NoStream t is stays bytes = kept_same old new slot t is bytes
kept_refused old new at slot fault.Disk t is stays bytes = closed_all old new slot t stays (ap (λ (c : Contents). c.taken) bytes)
kept_refused old new at slot _ t is stays bytes = dropped_at old new at slot t is stays (ap (λ (c : Contents). c.taken) bytes)

kept_unmoved : (old new : Contents) (slot : ℕ) (f : ArchiveFault) (t : Taken) → stream_at old.taken slot ≡ Some t → (stream_at new.taken slot ≡ None → ⊥) → UnmovedBytes old f new → Keeps old new slot t []
kept_unmoved old new slot fault.Disk t is stays bytes = closed_all old new slot t stays (ap (λ (c : Contents). c.taken) bytes)
kept_unmoved old new slot _ t is stays bytes = kept_same old new slot t is bytes

-- the stream's own advance
kept_advanced : (old new : Contents) (at slot n : ℕ) (t : Taken) → stream_at old.taken slot ≡ Some t → (w : Taken) → stream_at old.taken at ≡ Some w → new.taken ≡ slice_set old.taken at (Some (advanced n w))
    → Keeps old new slot t (cond (at == slot) (take n (free_bytes (stream_at old.taken slot))) [])
kept_advanced old new at slot n t is w there set =
    elim (cases_eq at slot) as (λ _. Keeps old new slot t (cond (at == slot) (take n (free_bytes (stream_at old.taken slot))) [])) [
      | inl e ↦ here e
      | inr ne ↦ subst (λ (b : Bool). Keeps old new slot t (cond b (take n (free_bytes (stream_at old.taken slot))) [])) (sym (ne_eqb at slot ne)) (kept_other old new at slot (Some (advanced n w)) t is set ne)
    ]
  where
    here : at ≡ slot → Keeps old new slot t (cond (at == slot) (take n (free_bytes (stream_at old.taken slot))) [])
    here e =
        let same : w ≡ t = some_is w t (sym there ∙ ap (stream_at old.taken) e ∙ is) in
        subst (λ (b : Bool). Keeps old new slot t (cond b (take n (free_bytes (stream_at old.taken slot))) [])) (sym (eq-eqb at slot e)) (
          advanced n w,
          ap (λ (xs : List (Option Taken)). stream_at xs slot) (set ∙ ap (λ (k : ℕ). slice_set old.taken k (Some (advanced n w))) e) ∙ set_there old.taken slot (Some (advanced n w)) t is,
          ap (λ (x : Taken). x.bytes ++ take n x.free) same ∙ ap (λ (o : Option Taken). t.bytes ++ take n (free_bytes o)) (sym is),
        )

module _ {D : Type 0} (g : disk.Ghosts D) where
  -- no stream stands where the state has none
  open_taken : (a : Parts D) (slot : ℕ) → (stream_at (state_of a).streams slot ≡ None → ⊥) → stream_at (contents_of g.seen a).taken slot ≡ None → ⊥
  open_taken a slot stays none =
      stays (at_map stream_facts a.streams slot ∙ ap (option_map stream_facts) (none_is (taken_in a.journal (g.seen a.disk)) (stream_at a.streams slot) (sym (at_map (taken_in a.journal (g.seen a.disk)) a.streams slot) ∙ none)))

  -- where the state has none, no bytes are taken
  none_taken : (a : Parts D) (slot : ℕ) → stream_at (state_of a).streams slot ≡ None → stream_at (contents_of g.seen a).taken slot ≡ None
  none_taken a slot none =
      at_map (taken_in a.journal (g.seen a.disk)) a.streams slot
      ∙ ap (option_map (taken_in a.journal (g.seen a.disk))) (none_is stream_facts (stream_at a.streams slot) (sym (at_map stream_facts a.streams slot) ∙ none))

  kept_lent : (old new : Parts D) (at slot : ℕ) (r : Result (Unit {0}) ArchiveFault) (left : List ℕ) (t : Taken) → stream_at (contents_of g.seen old).taken slot ≡ Some t → new ≡ room_left old at r left
      → Keeps (contents_of g.seen old) (contents_of g.seen new) slot t []
  kept_lent old new at slot (Err f) left t is now = kept_same (contents_of g.seen old) (contents_of g.seen new) slot t is (ap (contents_of g.seen) now)
  kept_lent old new at slot (Ok u) left t is now =
      let there = some_of (taken_in old.journal (g.seen old.disk)) (stream_at old.streams slot) t (sym (at_map (taken_in old.journal (g.seen old.disk)) old.streams slot) ∙ is) in
      elim (cases_eq at slot) as (λ _. Keeps (contents_of g.seen old) (contents_of g.seen new) slot t []) [
        | inl e ↦ (
          taken_in old.journal (g.seen old.disk) (with_room left there.0),
          ap (λ (a : Parts D). stream_at (contents_of g.seen a).taken slot) now
              ∙ ap (λ (k : ℕ). stream_at (contents_of g.seen (room_left old k (Ok u) left)).taken slot) e
              ∙ at_map (taken_in old.journal (g.seen old.disk)) (slice_set old.streams slot (option_map (with_room left) (stream_at old.streams slot))) slot
              ∙ ap (option_map (taken_in old.journal (g.seen old.disk))) (set_there old.streams slot (option_map (with_room left) (stream_at old.streams slot)) there.0 there.1 ∙ ap (option_map (with_room left)) there.1),
          with_room_bytes g.seen old there.0 left ∙ ap (λ (x : Taken). x.bytes) there.2 ∙ sym (append-nil t.bytes),
        )
        | inr ne ↦ kept_as (contents_of g.seen old) (contents_of g.seen new) slot t
            (ap (λ (a : Parts D). stream_at (contents_of g.seen a).taken slot) now
            ∙ at_map (taken_in old.journal (g.seen old.disk)) (slice_set old.streams at (option_map (with_room left) (stream_at old.streams at))) slot
            ∙ ap (option_map (taken_in old.journal (g.seen old.disk))) (set_elsewhere old.streams at slot (option_map (with_room left) (stream_at old.streams at)) ne ∙ there.1)
            ∙ ap (λ (x : Taken). Some x) there.2)
      ]

  -- a stream that is open before a call and behind it has taken what the call took
  kept_over : (old new : Parts D) (call : Call) (r : ReplyTo call) (slot : ℕ) (t : Taken) → IsTrue (g.is_honest old.disk) → Makes g old call r new → stream_at (contents_of g.seen old).taken slot ≡ Some t
      → (stream_at (state_of new).streams slot ≡ None → ⊥) → Keeps (contents_of g.seen old) (contents_of g.seen new) slot t (taken_by g.seen slot old call r)
  kept_over old new (begin_in at s) (Ok u) slot t honest made is stays =
      kept_other (contents_of g.seen old) (contents_of g.seen new) at slot (Some empty_taken) t is (ap (λ (c : Contents). c.taken) made.bytes)
      (λ e. (let none : None ≡ Some t = sym (none_taken old slot (ap (stream_at (state_of old).streams) (sym e) ∙ made.step.0.2)) ∙ is in cc))
  kept_over old new (begin_in at s) (Err f) slot t honest made is stays = kept_same (contents_of g.seen old) (contents_of g.seen new) slot t is made.bytes
  kept_over old new (lend_of at left) r slot t honest made is stays = kept_lent old new at slot r left t is made.2
  kept_over old new (advance_by at n) (Ok u) slot t honest made is stays =
      let bytes = made.bytes honest in
      kept_advanced (contents_of g.seen old) (contents_of g.seen new) at slot n t is bytes.0 bytes.1 (ap (λ (c : Contents). c.taken) bytes.2)
  kept_over old new (advance_by at n) (Err f) slot t honest made is stays =
      kept_refused (contents_of g.seen old) (contents_of g.seen new) at slot f t is (open_taken new slot stays) (made.bytes honest)
  kept_over old new (finish_of at) (Ok seq) slot t honest made is stays =
      dropped_at (contents_of g.seen old) (contents_of g.seen new) at slot t is (open_taken new slot stays) (ap (λ (c : Contents). c.taken) (made.bytes honest).2)
  kept_over old new (finish_of at) (Err f) slot t honest made is stays =
      kept_refused (contents_of g.seen old) (contents_of g.seen new) at slot f t is (open_taken new slot stays) (made.bytes honest)
  kept_over old new (abandon_of at) (Ok u) slot t honest made is stays =
      dropped_at (contents_of g.seen old) (contents_of g.seen new) at slot t is (open_taken new slot stays) (ap (λ (c : Contents). c.taken) made.bytes)
  kept_over old new (abandon_of at) (Err f) slot t honest made is stays = kept_same (contents_of g.seen old) (contents_of g.seen new) slot t is made.bytes
  kept_over old new (delete_of seq) (Ok u) slot t honest made is stays =
      kept_streams (contents_of g.seen old) (contents_of g.seen new) slot t is (ap (λ (c : Contents). c.taken) (made.bytes honest))
  kept_over old new (delete_of seq) (Err f) slot t honest made is stays =
      kept_unmoved (contents_of g.seen old) (contents_of g.seen new) slot f t is (open_taken new slot stays) (made.bytes honest)
  kept_over old new (pin_of seq flag) (Ok u) slot t honest made is stays = kept_same (contents_of g.seen old) (contents_of g.seen new) slot t is (made.bytes honest)
  kept_over old new (pin_of seq flag) (Err f) slot t honest made is stays =
      kept_unmoved (contents_of g.seen old) (contents_of g.seen new) slot f t is (open_taken new slot stays) (made.bytes honest)
  kept_over old new (label_of seq text) (Ok u) slot t honest made is stays = kept_same (contents_of g.seen old) (contents_of g.seen new) slot t is (made.bytes honest)
  kept_over old new (label_of seq text) (Err f) slot t honest made is stays =
      kept_unmoved (contents_of g.seen old) (contents_of g.seen new) slot f t is (open_taken new slot stays) (made.bytes honest)
  kept_over old new upgrade_it (Ok u) slot t honest made is stays = kept_same (contents_of g.seen old) (contents_of g.seen new) slot t is (made.bytes honest)
  kept_over old new upgrade_it (Err f) slot t honest made is stays =
      kept_unmoved (contents_of g.seen old) (contents_of g.seen new) slot f t is (open_taken new slot stays) (made.bytes honest)
  kept_over old new (retire_by policy) (Ok d) slot t honest made is stays =
      kept_streams (contents_of g.seen old) (contents_of g.seen new) slot t is (ap (λ (c : Contents). c.taken) (made.bytes honest))
  kept_over old new (retire_by policy) (Err f) slot t honest made is stays =
      kept_unmoved (contents_of g.seen old) (contents_of g.seen new) slot f t is (open_taken new slot stays) (made.bytes honest)
  kept_over old new (image_of seq) (Ok v) slot t honest made is stays = kept_same (contents_of g.seen old) (contents_of g.seen new) slot t is (made.bytes honest).1
  kept_over old new (image_of seq) (Err f) slot t honest made is stays =
      kept_unmoved (contents_of g.seen old) (contents_of g.seen new) slot f t is (open_taken new slot stays) (made.bytes honest)
  kept_over old new (find_case seq) r slot t honest made is stays = kept_same (contents_of g.seen old) (contents_of g.seen new) slot t is (ap (contents_of g.seen) made.1)
  kept_over old new list_cases r slot t honest made is stays = kept_same (contents_of g.seen old) (contents_of g.seen new) slot t is (ap (contents_of g.seen) made.1)
  kept_over old new count_free r slot t honest made is stays = kept_same (contents_of g.seen old) (contents_of g.seen new) slot t is (ap (contents_of g.seen) made.1)
  kept_over old new ask_version r slot t honest made is stays = kept_same (contents_of g.seen old) (contents_of g.seen new) slot t is (ap (contents_of g.seen) made.1)
  kept_over old new ask_stopped r slot t honest made is stays = kept_same (contents_of g.seen old) (contents_of g.seen new) slot t is (ap (contents_of g.seen) made.1)

  -- each call keeps honesty
  pub still_honest : (old new : Parts D) (call : Call) (r : ReplyTo call) → Makes g old call r new → g.is_honest new.disk ≡ g.is_honest old.disk
  still_honest old new (begin_in slot s) r made = made.stays.honesty
  still_honest old new (lend_of slot left) r made = ap (λ (a : Parts D). g.is_honest a.disk) made.2 ∙ ap g.is_honest (room_disk old slot r left)
  still_honest old new (advance_by slot n) r made = made.stays.honesty
  still_honest old new (finish_of slot) r made = made.changes.disk.honesty
  still_honest old new (abandon_of slot) r made = made.stays.honesty
  still_honest old new (delete_of seq) r made = made.changes.disk.honesty
  still_honest old new (pin_of seq flag) r made = made.changes.disk.honesty
  still_honest old new (label_of seq text) r made = made.changes.disk.honesty
  still_honest old new upgrade_it r made = made.changes.disk.honesty
  still_honest old new (retire_by policy) r made = made.changes.disk.honesty
  still_honest old new (image_of seq) r made = made.stays.honesty
  still_honest old new (find_case seq) r made = ap (λ (a : Parts D). g.is_honest a.disk) made.1
  still_honest old new list_cases r made = ap (λ (a : Parts D). g.is_honest a.disk) made.1
  still_honest old new count_free r made = ap (λ (a : Parts D). g.is_honest a.disk) made.1
  still_honest old new ask_version r made = ap (λ (a : Parts D). g.is_honest a.disk) made.1
  still_honest old new ask_stopped r made = ap (λ (a : Parts D). g.is_honest a.disk) made.1

  -- a stream that stays open has taken what its calls took
  pub taken_all : (a : Parts D) (slot : ℕ) (t : Taken) (made : List (Made D)) → IsTrue (g.is_honest a.disk) → AreMade g a made → stream_at (contents_of g.seen a).taken slot ≡ Some t → StaysOpen slot made
      → (t' : Taken) × (stream_at (contents_of g.seen (archive_after a made)).taken slot ≡ Some t') × (t'.bytes ≡ t.bytes ++ taken_over g.seen slot a made) × IsTrue (g.is_honest (archive_after a made).disk)
  taken_all a slot t [] honest all is stays = (t, is, sym (append-nil t.bytes), honest)
  taken_all a slot t (m ∷ ms) honest all is stays =
      let here = kept_over a m.archive m.call m.reply slot t honest all.0 is stays.0 in
      let rest = taken_all m.archive slot here.0 ms (still_honest a m.archive m.call m.reply all.0 ∙ honest) all.1 here.1 stays.1 in
      (rest.0, rest.1, rest.2 ∙ ap (λ (x : List ℕ). x ++ taken_over g.seen slot m.archive ms) here.2 ∙ append_assoc t.bytes (taken_by g.seen slot a m.call m.reply) (taken_over g.seen slot m.archive ms), rest.3)

  pub set_within : {X : Type 0} (xs : List (Option X)) (slot : ℕ) (o : Option X) → slot < length xs → stream_at (slice_set xs slot o) slot ≡ o
  set_within [] slot o below = absurd (omega arith)
  set_within (y ∷ ys) zero o below = refl
  set_within (y ∷ ys) (suc slot) o below = set_within ys slot o (omega arith)
