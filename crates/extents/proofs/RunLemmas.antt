-- Stretches of free blocks, and runs that are given back one after another.
use Rattle.std.proofs.Common.{◌≡◌, inl, inr, ⊎_elim, ℕ, ◌+◌, ◌-◌, ◌<◌, ◌≤◌, Bool, true, false, List, ◌++◌, length, get_or, take, drop, sym, ap, ◌∙◌, arith}
use Rattle.std.proofs.lemmas.List.{take_more, drop_more, take-append-drop}
use Rattle.std.proofs.lemmas.List.Elements.{All-get_or}
use Rattle.std.proofs.lemmas.Bool.{cases_lt, both_ways}
use Rattle.extents.specs.declared.run_list.Run.{Run}
use Rattle.extents.specs.Runs.{run_blocks, blocks_of}
use Rattle.extents.specs.FreeSet.{is_free, uses, with_blocks, with_runs, AllUsed, AreUsed, IsStretch, HasUsed, Takes, without}
use Rattle.extents.specs.FreeLaws.{free_below, free_with_other, uses_append, uses_inside, with_append, run_of}
use Rattle.extents.proofs.BlockLemmas.{blocks-append, blocks_push}

-- A stretch from a free block on.
module _ (flags : List Bool) (start want count : ℕ) (free : is_free flags start ≡ true) (s : IsStretch flags start want count) (some : 1 ≤ want) where
  pub stretch_some : 1 ≤ count
  stretch_some =
      elim (cases_lt 0 count) as (λ _. 1 ≤ count) [
        | inl more ↦ omega arith
        | inr none ↦ (
            let e : start + count ≡ start = omega arith in
            ⊎_elim (λ all. omega arith) (λ end. absurd (both_ways (is_free flags start) (sym (ap (is_free flags) e) ∙ end) free)) s.longest)
      ]

  pub stretch_within : start + count ≤ length flags
  stretch_within = omega (arith, stretch_some, free_below flags (start + count - 1) (s.free (start + count - 1) (omega (arith, stretch_some)) (omega (arith, stretch_some))))

  pub stretch_taken : (new : List Bool) → ((k : ℕ) → k < start → is_free flags k ≡ false) → new ≡ without flags (run_of start count) → Takes flags want (run_of start count) new
  stretch_taken new lowest taken = record {
    some = stretch_some;
    at_most = s.at_most;
    within = stretch_within;
    lowest = lowest;
    free = s.free;
    longest = s.longest;
    taken = taken;
  }

-- a stretch that is cut short ends at a block that is not free
pub stretch_cut : (flags : List Bool) (run : Run) (count : ℕ) → IsStretch flags run.start run.count count → count < run.count → HasUsed flags run
stretch_cut flags run count s cut = record {
  block = run.start + count;
  from = omega arith;
  below = omega arith;
  used = ⊎_elim (λ whole. absurd (omega arith)) (λ end. end) s.longest;
}

-- The run at index i of runs that are given back.
module _ (flags : List Bool) (runs : List Run) (are : AreUsed flags runs) (i : ℕ) (d : Run) (within : i < length runs) where
  pub blocks_more : blocks_of (take (i + 1) runs) ≡ blocks_of (take i runs) ++ run_blocks (get_or runs i d)
  blocks_more = ap blocks_of (take_more runs i d within) ∙ blocks_push (take i runs) (get_or runs i d)

  blocks_split : blocks_of runs ≡ blocks_of (take i runs) ++ (run_blocks (get_or runs i d) ++ blocks_of (drop (i + 1) runs))
  blocks_split =
      ap blocks_of (sym (take-append-drop i runs)) ∙ blocks-append (take i runs) (drop i runs)
      ∙ ap (λ rs. blocks_of (take i runs) ++ blocks_of rs) (drop_more runs i d within)

  uses_split : (k : ℕ) → uses (blocks_of (take i runs)) k + uses (run_blocks (get_or runs i d)) k ≤ uses (blocks_of runs) k
  uses_split k =
      omega (
        arith,
        ap (λ bs. uses bs k) blocks_split,
        uses_append (blocks_of (take i runs)) (run_blocks (get_or runs i d) ++ blocks_of (drop (i + 1) runs)) k,
        uses_append (run_blocks (get_or runs i d)) (blocks_of (drop (i + 1) runs)) k,
      )

  -- its blocks are not free before and while it is its turn
  pub none_free : (now : List Bool) → now ≡ with_runs flags (take i runs) → AllUsed now (get_or runs i d)
  none_free now so_far k from below =
      let one = uses_inside (get_or runs i d) k from below in
      let split = uses_split k in
      let different = are.different k in
      let others : uses (blocks_of (take i runs)) k ≡ 0 = omega arith in
      ap (λ f. is_free f k) so_far ∙ free_with_other flags (blocks_of (take i runs)) k others ∙ (are.used k (omega arith)).1

  -- and lie within the map
  pub run_within : (get_or runs i d).start + (get_or runs i d).count ≤ length flags
  run_within =
      let r = get_or runs i d in
      let some = All-get_or (λ (x : Run). 1 ≤ x.count) runs i d within are.some in
      let k : ℕ = r.start + r.count - 1 in
      let one = uses_inside r k (omega arith) (omega arith) in
      let split = uses_split k in
      let below = (are.used k (omega arith)).0 in
      omega arith

  pub given_more : (now new : List Bool) → now ≡ with_runs flags (take i runs) → new ≡ with_blocks now (run_blocks (get_or runs i d)) → new ≡ with_runs flags (take (i + 1) runs)
  given_more now new so_far step =
      step ∙ ap (λ f. with_blocks f (run_blocks (get_or runs i d))) so_far
      ∙ with_append flags (blocks_of (take i runs)) (run_blocks (get_or runs i d))
      ∙ ap (with_blocks flags) (sym blocks_more)
