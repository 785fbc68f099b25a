-- No list of runs with the same blocks is shorter than the one that is kept.
use Rattle.std.proofs.Common.{◌≡◌, ℕ, zero, suc, ◌+◌, ◌≤◌, ◌==◌, List, [], ◌∷◌, ◌++◌, length, refl, subst, arith, true, false, cond}
use Rattle.std.specs.List.{range_with_len}
use Rattle.std.proofs.lemmas.Bool.{eq-eqb}
use Rattle.extents.specs.declared.run_list.Run.{Run}
use Rattle.extents.specs.Runs.{blocks_of, runs_of, with_first}

first_one_more : (b : ℕ) (rs : List Run) → length (with_first b rs) ≤ length rs + 1
first_one_more b [] = omega arith
first_one_more b (r ∷ rest) =
    elim (b + 1 == r.start) as (λ t. length (cond t (record { start = b; count = r.count + 1 } ∷ rest) (record { start = b; count = 1 } ∷ r ∷ rest)) ≤ length (r ∷ rest) + 1)
    [ true ↦ omega arith | false ↦ omega arith ]

-- a block right before another joins its run
next_joins : (b c : ℕ) (rs : List Run) → b + 1 ≡ c → length (with_first b (with_first c rs)) ≤ length (with_first c rs)
next_joins b c [] next = rw (eq-eqb (b + 1) c next) (omega arith)
next_joins b c (r ∷ rest) next =
    elim (c + 1 == r.start)
    as (λ t. length (with_first b (cond t (record { start = c; count = r.count + 1 } ∷ rest) (record { start = c; count = 1 } ∷ r ∷ rest)))
    ≤ length (cond t (record { start = c; count = r.count + 1 } ∷ rest) (record { start = c; count = 1 } ∷ r ∷ rest))) [
      | true ↦ rw (eq-eqb (b + 1) c next) (omega arith)
      | false ↦ rw (eq-eqb (b + 1) c next) (omega arith)
    ]

-- the blocks of a run add one run at most
run_added : (n a : ℕ) (bs : List ℕ) → length (runs_of (range_with_len a n ++ bs)) ≤ length (runs_of bs) + 1
run_added zero a bs = omega arith
run_added (suc zero) a bs = first_one_more a (runs_of bs)
run_added (suc (suc n)) a bs =
    let joins = next_joins a (a + 1) (runs_of (range_with_len (a + 1 + 1) n ++ bs)) refl in
    let more = run_added (suc n) (a + 1) bs in
    omega (arith, joins, more)

fewest : (runs : List Run) → length (runs_of (blocks_of runs)) ≤ length runs
fewest [] = omega arith
fewest (r ∷ rest) = omega (arith, run_added r.count r.start (blocks_of rest), fewest rest)

pub runs_fewest : (blocks : List ℕ) (runs : List Run) → blocks_of runs ≡ blocks → length (runs_of blocks) ≤ length runs
runs_fewest blocks runs is = subst (λ (bs : List ℕ). length (runs_of bs) ≤ length runs) is (fewest runs)
