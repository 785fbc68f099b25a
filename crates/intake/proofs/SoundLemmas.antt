-- How an archive stays sound.
use Rattle.std.proofs.Common.{◌≡◌, inl, inr, ℕ, zero, suc, ◌+◌, ◌<◌, ◌≤◌, Bool, true, false, List, [], ◌∷◌, ◌++◌, length, map, refl, sym, ap, ◌∙◌, subst, arith, Option, None, Some}
use Rattle.std.specs.Prelude.{option_map, sum_by, nat_lt, slice_set}
use Rattle.std.specs.List.{All}
use Rattle.std.proofs.Math.ListN.{length-replicate}
use Rattle.std.proofs.Common.{◌%◌, Result, Ok, Err, take, drop}
use Rattle.std.proofs.lemmas.List.{length-set, length-map, get_or_past, length-append, length-take-le, length-drop}
use Rattle.std.proofs.lemmas.List.Sums.{sum_by-set, sum_by-cons, get_or-le-sum_by}
use Rattle.std.proofs.lemmas.Bool.{cases_lt}
use Rattle.std.proofs.lemmas.List.Elements.{All-set, All-head, All-tail}
use Rattle.disk_model.specs.declared.disk.Disk as disk
use Rattle.extents.specs.FreeSet.{free_count, uses, one_if}
use Rattle.case_journal.specs.Journaled.{Journaled}
use Rattle.intake.specs.Guarding.{Guards}
use Rattle.std.proofs.Common.{lit<}
use Rattle.intake.specs.Balance.{AreHeld, Balances}
use Rattle.intake.specs.Contents.{zero_block}
use Rattle.journal_layout.specs.Live.{IsWhole}
use Rattle.intake.specs.Live.{cases_named}
use Rattle.intake.specs.Parts.{StreamParts, state_of, stream_facts}
use Rattle.intake.specs.State.{blocks_for, blocks_in, filled_by}
use Rattle.intake.specs.Room.{HasBlock, SlotReply}
use Rattle.intake.specs.Lending.{refilled, with_room, slots_left}
use Rattle.intake.specs.declared.faults.ArchiveFault.{ArchiveFault}
use Rattle.journal_layout.specs.Case.{Case}
use Rattle.journal_layout.specs.Layout.{IsWithinLimits}
use Rattle.journal_layout.specs.Soundness.{IsWritable}
use Rattle.intake.specs.Slots.{stream_at, closed}
use Rattle.intake.specs.Sound.{IsArchiveSound, IsRunning, IsFine, IsFineIfOpen, held_by, stream_uses, stream_blocks, case_blocks, is_called, streams_named}

pub length-zero_block : length zero_block ≡ 4096
unfolding zero_block
length-zero_block = length-replicate {A = ℕ} 4096 0

-- something else stands in a slot, and what it holds comes from the free blocks or goes to them
pub running_with : {D : Type 0} (g : disk.Ghosts D) (d d' : D) (j : Journaled) (most : ℕ) (flags flags' : List Bool) (streams : List (Option StreamParts)) (slot : ℕ) (o o' : Option StreamParts)
    → IsRunning g d j most flags streams → slot < length streams → stream_at streams slot ≡ o → Guards g d' j → Balances flags (held_by o) flags' (held_by o') → IsFineIfOpen most o'
    → ((name : List ℕ) → cases_named j.standing.cases name + streams_named streams name + one_if (is_called name o') ≤ 1 + one_if (is_called name o))
    → IsRunning g d' j most flags' (slice_set streams slot o')
running_with g d d' j most flags flags' streams slot o o' r below there keeps bal fine names = record {
  journal = r.journal;
  keeps = keeps;
  cases = r.cases;
  streams_fine = All-set (IsFineIfOpen most) streams slot o' fine r.streams_fine;
  blocks = bal.long ∙ r.blocks;
  once = λ k. (let s = sum_by-set (λ (x : Option StreamParts). uses (held_by x) k) streams slot o' None below in
      let e = ap (λ (x : Option StreamParts). uses (held_by x) k) there in
      let b = bal.each k in let h = r.once k in omega (arith, s, e, b, h));
  total = (let s = sum_by-set (λ (x : Option StreamParts). length (held_by x)) streams slot o' None below in
      let e = ap (λ (x : Option StreamParts). length (held_by x)) there in
      let b = bal.all in let h = r.total in omega (arith, s, e, b, h));
  named = λ name. (let s = sum_by-set (λ (x : Option StreamParts). one_if (is_called name x)) streams slot o' None below in
      let e = ap (λ (x : Option StreamParts). one_if (is_called name x)) there in
      let n = names name in omega (arith, s, e, n));
}

-- what a stream has is some of what the streams have
pub part_of_sum : (k : ℕ) (xs : List (Option StreamParts)) (i : ℕ) → uses (held_by (stream_at xs i)) k ≤ stream_uses xs k
part_of_sum k xs i = elim (cases_lt i (length xs)) as (λ _. uses (held_by (stream_at xs i)) k ≤ stream_uses xs k) [
  | inl low ↦ get_or-le-sum_by (λ (x : Option StreamParts). uses (held_by x) k) xs i None low
  | inr high ↦ (let e = ap (λ (x : Option StreamParts). uses (held_by x) k) (get_or_past xs i None high) in omega (arith, e))
]

pub named_in : (name : List ℕ) (xs : List (Option StreamParts)) (i : ℕ) → one_if (is_called name (stream_at xs i)) ≤ streams_named xs name
named_in name xs i = elim (cases_lt i (length xs)) as (λ _. one_if (is_called name (stream_at xs i)) ≤ streams_named xs name) [
  | inl low ↦ get_or-le-sum_by (λ (x : Option StreamParts). one_if (is_called name x)) xs i None low
  | inr high ↦ (let e = ap (λ (x : Option StreamParts). one_if (is_called name x)) (get_or_past xs i None high) in omega (arith, e))
]

-- what a stream has is held
pub stream_held : {D : Type 0} (g : disk.Ghosts D) (d : D) (j : Journaled) (most : ℕ) (flags : List Bool) (streams : List (Option StreamParts)) (slot : ℕ) (o : Option StreamParts)
    → IsRunning g d j most flags streams → stream_at streams slot ≡ o → AreHeld flags (held_by o)
stream_held g d j most flags streams slot o r there k =
    let h = r.once k in
    let e = ap (λ (n : ℕ). one_if (nat_lt k n)) r.blocks in
    let s = part_of_sum k streams slot in
    let f = ap (λ (x : Option StreamParts). uses (held_by x) k) there in
    omega (arith, h, e, s, f)

pub no_more : (a x : ℕ) → a ≤ 1 → a + x ≤ 1 + x
no_more a x le = omega arith

-- the same of the whole archive
pub sound_with : {D : Type 0} (g : disk.Ghosts D) (d d' : D) (j : Journaled) (most : ℕ) (flags flags' : List Bool) (streams : List (Option StreamParts)) (slot : ℕ) (o o' : Option StreamParts) (b : Bool)
    → IsArchiveSound g d j most flags streams b → b ≡ false → slot < 8 → stream_at streams slot ≡ o → Guards g d' j → Balances flags (held_by o) flags' (held_by o') → IsFineIfOpen most o'
    → ((name : List ℕ) → cases_named j.standing.cases name + streams_named streams name + one_if (is_called name o') ≤ 1 + one_if (is_called name o))
    → IsArchiveSound g d' j most flags' (slice_set streams slot o') b
sound_with g d d' j most flags flags' streams slot o o' b sound on below there keeps bal fine names = record {
  shape = sound.shape;
  slots = length-set streams slot o' ∙ sound.slots;
  runs = λ _. running_with g d d' j most flags flags' streams slot o o' (sound.runs on) (let e = sound.slots in omega arith) there keeps bal fine names;
  none = λ off. absurd (let e : true ≡ false = sym off ∙ on in cc);
  doubts = keeps.keeps.doubts;
}

-- a stream is dropped
pub sound_without : {D : Type 0} (g : disk.Ghosts D) (d d' : D) (j : Journaled) (most : ℕ) (flags flags' : List Bool) (streams : List (Option StreamParts)) (slot : ℕ) (o : Option StreamParts) (b : Bool)
    → IsArchiveSound g d j most flags streams b → b ≡ false → slot < 8 → stream_at streams slot ≡ o → Guards g d' j → Balances flags (held_by o) flags' []
    → IsArchiveSound g d' j most flags' (slice_set streams slot None) b
sound_without g d d' j most flags flags' streams slot o b sound on below there keeps bal =
    sound_with g d d' j most flags flags' streams slot o None b sound on below there keeps bal tt
    (λ name. (let n = (sound.runs on).named name in omega (arith, n)))

closed_twice : (xs : List (Option StreamParts)) → closed xs ≡ closed (closed xs)
closed_twice [] = refl
closed_twice (x ∷ xs) = ap (λ (l : List (Option StreamParts)). None ∷ l) (closed_twice xs)

-- a disk fault stops it
pub sound_halted : {D : Type 0} (g : disk.Ghosts D) (d d' : D) (j j' : Journaled) (most : ℕ) (flags flags' : List Bool) (streams streams' : List (Option StreamParts)) (b : Bool)
    → IsArchiveSound g d j most flags streams b → Guards g d' j' → j'.standing.shape ≡ j.standing.shape → length streams' ≡ length streams → IsArchiveSound g d' j' most flags' (closed streams') true
sound_halted g d d' j j' most flags flags' streams streams' b sound keeps same long = record {
  shape = subst IsWithinLimits (sym same) sound.shape;
  slots = (let e : length (closed streams') ≡ length streams' = simp length-map in e ∙ long ∙ sound.slots);
  runs = λ on. absurd (let e : true ≡ false = on in cc);
  none = λ _. closed_twice streams';
  doubts = keeps.keeps.doubts;
}

-- the blocks in use, as the state without bytes counts them
cases_count : (next : ℕ) (cases : List Case) → All (IsWhole next) cases → sum_by (λ (c : Case). blocks_for c.len) cases ≡ case_blocks cases
cases_count next [] each = refl
cases_count next (c ∷ rest) each =
    let s = sum_by-cons (λ (x : Case). blocks_for x.len) c rest in
    let t = sum_by-cons (λ (x : Case). length x.blocks) c rest in
    let m = cases_count next rest (All-tail (IsWhole next) c rest each) in
    let e = (All-head (IsWhole next) c rest each).enough in
    omega (arith, s, t, m, e)

streams_count : (most : ℕ) (streams : List (Option StreamParts)) → All (IsFineIfOpen most) streams → sum_by filled_by (map (option_map stream_facts) streams) ≡ stream_blocks streams
streams_count most [] each = refl
streams_count most (o ∷ rest) each =
    let s = sum_by-cons filled_by (option_map stream_facts o) (map (option_map stream_facts) rest) in
    let t = sum_by-cons (λ (x : Option StreamParts). length (held_by x)) o rest in
    let m = streams_count most rest (All-tail (IsFineIfOpen most) o rest each) in
    let e = one o (All-head (IsFineIfOpen most) o rest each) in
    omega (arith, s, t, m, e)
  where
    one : (x : Option StreamParts) → IsFineIfOpen most x → filled_by (option_map stream_facts x) ≡ length (held_by x)
    one None fine = refl
    one (Some x) fine = sym fine.filled

pub in_use : {D : Type 0} (g : disk.Ghosts D) (d : D) (j : Journaled) (most : ℕ) (flags : List Bool) (streams : List (Option StreamParts)) (b : Bool)
    → IsRunning g d j most flags streams → free_count flags + blocks_in (state_of (record { disk = d; journal = j; limit = most; streams = streams; stopped = b })) ≡ j.standing.shape.data_blocks
in_use g d j most flags streams b r =
    let c = cases_count j.standing.next j.standing.cases r.cases.each in
    let s = streams_count most streams r.streams_fine in
    let t = r.total in
    omega (arith, c, s, t)

-- what stands in a slot, without bytes
pub state_at : (streams : List (Option StreamParts)) (slot : ℕ) → stream_at (map (option_map stream_facts) streams) slot ≡ option_map stream_facts (stream_at streams slot)
state_at [] slot = refl
state_at (o ∷ rest) zero = refl
state_at (o ∷ rest) (suc slot) = state_at rest slot

-- what stands in a slot is fine
pub fine_at : (most : ℕ) (streams : List (Option StreamParts)) (slot : ℕ) → All (IsFineIfOpen most) streams → IsFineIfOpen most (stream_at streams slot)
fine_at most [] slot each = tt
fine_at most (o ∷ rest) zero each = All-head (IsFineIfOpen most) o rest each
fine_at most (o ∷ rest) (suc slot) each = fine_at most rest slot (All-tail (IsFineIfOpen most) o rest each)

has_block : (most : ℕ) (o : Option StreamParts) → IsFineIfOpen most o → HasBlock o
has_block most None fine = tt
has_block most (Some s) fine = fine.block

pub block_at : {D : Type 0} (g : disk.Ghosts D) (d : D) (j : Journaled) (most : ℕ) (flags : List Bool) (streams : List (Option StreamParts)) (slot : ℕ) (b : Bool) → IsArchiveSound g d j most flags streams b → b ≡ false → HasBlock (stream_at streams slot)
block_at g d j most flags streams slot b sound on = has_block most (stream_at streams slot) (fine_at most streams slot (sound.runs on).streams_fine)

length-refilled : (old : List ℕ) (used : ℕ) (ws : List ℕ) → used ≤ length old → length (refilled old used ws) ≡ length old
length-refilled old used ws le =
    let inner : List ℕ = take used old ++ (ws ++ drop (length ws) (drop used old)) in
    let a = length-append (take used old) (ws ++ drop (length ws) (drop used old)) in
    let b = length-append ws (drop (length ws) (drop used old)) in
    let c = length-take-le used old le in
    let d = length-drop (length ws) (drop used old) in
    let e = length-drop used old in
    length-take-le (length old) inner (omega (arith, a, b, c, d, e))

pub nothing_moves : (flags : List Bool) (held : List ℕ) → Balances flags held flags held
nothing_moves flags held = record { long = refl; each = λ k. refl; all = refl }

-- a loan of a slot's free part leaves it sound
pub sound_lent : {D : Type 0} (g : disk.Ghosts D) (d : D) (j : Journaled) (most : ℕ) (flags : List Bool) (streams : List (Option StreamParts)) (slot : ℕ) (b : Bool) (r : Result (Unit {0}) ArchiveFault) (ws : List ℕ)
    → IsArchiveSound g d j most flags streams b → SlotReply b streams slot r → IsArchiveSound g d j most flags (slots_left streams slot r ws) b
sound_lent g d j most flags streams slot b (Err f) ws sound reply = sound
sound_lent g d j most flags streams slot b (Ok u) ws sound reply = here (stream_at streams slot) refl
  where
    low : slot < 8
    low = elim (cases_lt slot 8) as (λ _. slot < 8) [ inl lt ↦ lt | inr high ↦ absurd (reply.1 (get_or_past streams slot None (let e = sound.slots in omega arith))) ]

    here : (o : Option StreamParts) → stream_at streams slot ≡ o → IsArchiveSound g d j most flags (slice_set streams slot (option_map (with_room ws) (stream_at streams slot))) b
    here None is = absurd (reply.1 is)
    here (Some s) is =
        let fine : IsFine most s = subst (IsFineIfOpen most) is (fine_at most streams slot (sound.runs reply.0).streams_fine) in
        subst (λ (o : Option StreamParts). IsArchiveSound g d j most flags (slice_set streams slot (option_map (with_room ws) o)) b) (sym is)
        (sound_with g d d j most flags flags streams slot (Some s) (Some (with_room ws s)) b sound reply.0 low is (sound.runs reply.0).keeps (nothing_moves flags s.facts.blocks)
        (record {
          origin = fine.origin;
          small = fine.small;
          limit = fine.limit;
          filled = fine.filled;
          block = length-refilled s.block (s.facts.len % 4096) ws (let e = fine.block in omega arith) ∙ fine.block;
        })
        (λ name. (let n = (sound.runs reply.0).named name in no_more _ _ n)))

-- a stream stands in one of the eight slots
pub slot_below : {D : Type 0} (g : disk.Ghosts D) (d : D) (j : Journaled) (most : ℕ) (flags : List Bool) (streams : List (Option StreamParts)) (slot : ℕ) (s : StreamParts) (b : Bool)
    → IsArchiveSound g d j most flags streams b → stream_at streams slot ≡ Some s → slot < 8
slot_below g d j most flags streams slot s b sound is =
    elim (cases_lt slot 8) as (λ _. slot < 8) [ inl lt ↦ lt | inr high ↦ absurd (let e : None ≡ Some s = sym (get_or_past streams slot None (let e = sound.slots in omega arith)) ∙ is in cc) ]

pub sound_dropped : {D : Type 0} (g : disk.Ghosts D) (d d' : D) (j : Journaled) (most : ℕ) (flags flags' : List Bool) (streams streams' : List (Option StreamParts)) (slot : ℕ) (s : StreamParts) (b : Bool)
    → IsArchiveSound g d j most flags streams b → b ≡ false → stream_at streams slot ≡ Some s → streams' ≡ slice_set streams slot None → Guards g d' j → Balances flags s.facts.blocks flags' []
    → IsArchiveSound g d' j most flags' streams' b
sound_dropped g d d' j most flags flags' streams streams' slot s b sound on is now keeps bal =
    subst (λ (x : List (Option StreamParts)). IsArchiveSound g d' j most flags' x b) (sym now)
    (sound_without g d d' j most flags flags' streams slot (Some s) b sound on (slot_below g d j most flags streams slot s b sound is) is keeps bal)

pub fine_new : (most : ℕ) (s : StreamParts) → IsWritable s.facts.origin → s.facts.len ≡ 0 → s.facts.blocks ≡ [] → s.block ≡ zero_block → IsFine most s
fine_new most s fits none no_blocks zeros = record {
  origin = fits;
  small = rw none (lit< tt);
  limit = rw none (omega arith);
  filled = rw (none, no_blocks) refl;
  block = ap length zeros ∙ length-zero_block;
}
