-- The lowest free block, as the map of free blocks has it, is the lowest that nothing uses.
use Rattle.std.proofs.Common.{◌≡◌, ◌≢◌, ⊎_elim, inl, inr, ℕ, zero, suc, ◌+◌, ◌/◌, ◌%◌, ◌<◌, ◌≤◌, Bool, true, false, List, [], ◌∷◌, length, map, refl, sym, ap, ◌∙◌, arith, Option, None, Some, Ok}
use Rattle.std.specs.Prelude.{option_map, sum_by, nat_lt, slice_set}
use Rattle.std.proofs.lemmas.List.{get_or_past, map-set}
use Rattle.std.proofs.lemmas.List.Sums.{sum_by-set, sum_by-cons}
use Rattle.std.proofs.lemmas.Bool.{cases_lt, cases_eq, lt-ltb}
use Rattle.disk_model.specs.declared.disk.Disk as disk
use Rattle.extents.specs.FreeSet.{is_free, uses, one_if}
use Rattle.case_journal.specs.Journaled.{Journaled}
use Rattle.intake.specs.Closing.{ClosesStream}
use Rattle.intake.specs.Growth.{AddsLowest, Grows, NeedsBlock}
use Rattle.intake.specs.Live.{case_uses}
use Rattle.intake.specs.Parts.{Parts, StreamParts, state_of, stream_facts}
use Rattle.intake.specs.Slots.{stream_at}
use Rattle.intake.specs.Sound.{IsRunning, held_by, stream_uses}
use Rattle.intake.specs.State.{StreamFacts, blocks_by, blocks_for}
use Rattle.intake.specs.Step.{IsLowestFree, FillsBlocks, block_uses, with_stream}
use Rattle.intake.proofs.CountLemmas.{in_range, one_if_le}
use Rattle.journal_layout.specs.Case.{Case}

-- the uses of a block, as the state without bytes counts them
streams_use : (k : ℕ) (streams : List (Option StreamParts)) → sum_by (λ (o : Option StreamFacts). uses (blocks_by o) k) (map (option_map stream_facts) streams) ≡ stream_uses streams k
streams_use k [] = refl
streams_use k (o ∷ rest) =
    let s = sum_by-cons (λ (x : Option StreamFacts). uses (blocks_by x) k) (option_map stream_facts o) (map (option_map stream_facts) rest) in
    let t = sum_by-cons (λ (x : Option StreamParts). uses (held_by x) k) o rest in
    omega (arith, s, t, streams_use k rest)

-- a stream that is taken out uses its blocks no longer
taken_out : (k : ℕ) (streams : List (Option StreamParts)) (slot : ℕ) (s : StreamParts) → stream_at streams slot ≡ Some s
    → stream_uses (slice_set streams slot None) k + uses s.facts.blocks k ≡ stream_uses streams k
taken_out k streams slot s is = elim (cases_lt slot (length streams)) as (λ _. stream_uses (slice_set streams slot None) k + uses s.facts.blocks k ≡ stream_uses streams k) [
  | inl low ↦ (let t = sum_by-set (λ (x : Option StreamParts). uses (held_by x) k) streams slot None None low in
      let e = ap (λ (x : Option StreamParts). uses (held_by x) k) is in omega (arith, t, e))
  | inr high ↦ absurd (let none : None ≡ Some s = sym (get_or_past streams slot None high) ∙ is in cc)
]

module _ {D : Type 0} (g : disk.Ghosts D) (d : D) (j : Journaled) (most : ℕ) (flags : List Bool) (streams : List (Option StreamParts)) (slot : ℕ) (s : StreamParts) (b : Bool)
    (running : IsRunning g d j most flags streams) (is : stream_at streams slot ≡ Some s) where
  abbrev before : Parts D
  before = record { disk = d; journal = j; limit = most; streams = streams; stopped = b }

  -- what the archive without the stream uses, and what the stream has
  parted : (k : ℕ) → block_uses (with_stream (state_of before) slot None) k + uses s.facts.blocks k ≡ case_uses j.standing.cases k + stream_uses streams k
  parted k =
      let m = ap (sum_by (λ (o : Option StreamFacts). uses (blocks_by o) k)) (map-set (option_map stream_facts) streams slot None) in
      let t = streams_use k (slice_set streams slot None) in
      let o = taken_out k streams slot s is in
      omega (arith, m, t, o)

  lowest_is : (k : ℕ) → is_free flags k ≡ true → ((i : ℕ) → i < k → is_free flags i ≡ false) → IsLowestFree (with_stream (state_of before) slot None) s.facts.blocks k
  lowest_is k free lower = record {
    within = below;
    free = (let h = running.once k in let e = ap one_if free in let p = parted k in let m = one_if_le (nat_lt k j.standing.shape.data_blocks) in omega (arith, h, e, p, m));
    lower_used = λ i less. (let h = running.once i in let e = ap one_if (lower i less) in let p = parted i in
        let m : one_if (nat_lt i j.standing.shape.data_blocks) ≡ 1 = ap one_if (lt-ltb i j.standing.shape.data_blocks (omega (arith, less, below))) in omega (arith, h, e, p, m));
  }
    where
      below : k < j.standing.shape.data_blocks
      below = in_range k j.standing.shape.data_blocks (let h = running.once k in let e = ap one_if free in omega (arith, h, e))

  -- a stream takes the lowest one
  takes_one : (total : ℕ) (blocks : List ℕ) → AddsLowest flags s.facts.blocks blocks → s.facts.len / 4096 + 1 ≡ total → FillsBlocks (state_of before) slot s.facts total blocks
  takes_one total blocks adds enough = (suc zero, enough, (adds.0, lowest_is adds.0 adds.1.0 adds.1.1, adds.2))

  takes_none : (total : ℕ) (blocks : List ℕ) → blocks ≡ s.facts.blocks → s.facts.len / 4096 ≡ total → FillsBlocks (state_of before) slot s.facts total blocks
  takes_none total blocks same enough = (zero, (omega (arith, enough)), same)

  same_count : (len n : ℕ) → len % 4096 + n ≤ 4096 → (NeedsBlock len n → ⊥) → len / 4096 ≡ (len + n) / 4096
  same_count len zero fits no_need = let e : len ≡ len + zero = omega arith in ap (λ (k : ℕ). k / 4096) e
  same_count len (suc n) fits no_need = elim (cases_eq (len % 4096 + suc n) 4096) as (λ _. len / 4096 ≡ (len + suc n) / 4096) [ inl full ↦ absurd (no_need ((λ e. omega (arith, e)), full)) | inr less ↦ omega (arith, less) ]

  -- what it has taken when it has grown
  pub grown_fills : (free n : ℕ) (s' : StreamParts) (u : Unit {0}) → s.facts.len % 4096 + n ≤ 4096 → Grows free most s n (Ok u) s' → (NeedsBlock s.facts.len n → AddsLowest flags s.facts.blocks s'.facts.blocks)
      → FillsBlocks (state_of before) slot s.facts ((s.facts.len + n) / 4096) s'.facts.blocks
  grown_fills free n s' u fits grows lowest =
      ⊎_elim
      (λ h. takes_none ((s.facts.len + n) / 4096) s'.facts.blocks (ap (λ (x : StreamParts). x.facts.blocks) h.1) (same_count s.facts.len n fits h.0))
      (λ h. takes_one ((s.facts.len + n) / 4096) s'.facts.blocks (lowest h.0) (let m = h.0.1 in omega (arith, m)))
      grows.1

  -- and when it is closed
  pub closed_fills : (free : ℕ) (s' : StreamParts) (u : Unit {0}) → ClosesStream free s (Ok u) s' → ((s.facts.len % 4096 ≢ 0) → AddsLowest flags s.facts.blocks s'.facts.blocks)
      → FillsBlocks (state_of before) slot s.facts (blocks_for s.facts.len) s'.facts.blocks
  closed_fills free s' u closes lowest =
      ⊎_elim
      (λ h. takes_none (blocks_for s.facts.len) s'.facts.blocks (ap (λ (c : Case). c.blocks) h.1) (let z = h.0 in omega (arith, z)))
      (λ h. takes_one (blocks_for s.facts.len) s'.facts.blocks (lowest h.0) (let z = h.0 in omega (arith, z)))
      closes
