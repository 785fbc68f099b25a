-- Blocks of runs, one run after another.
use Rattle.std.proofs.Common.{◌+◌, ◌<◌, ◌≤◌, ℕ, zero, suc, List, [], ◌∷◌, ◌++◌, length, drop, get_or, arith}
use Rattle.std.specs.List.{range_with_len}
use Rattle.extents.specs.Runs.{blocks_of, run_blocks}
use Rattle.extents.specs.declared.run_list.Run.{Run}
use Rattle.salvage.specs.Mending.{AreBelow}

run_below : (n start count : ℕ) → start + count ≤ n → AreBelow n (range_with_len start count)
run_below n start zero within = tt
run_below n start (suc count) within = (omega (arith, within), run_below n (start + 1) count (omega (arith, within)))

both_below : (n : ℕ) (ks ls : List ℕ) → AreBelow n ks → AreBelow n ls → AreBelow n (ks ++ ls)
both_below n [] ls first second = second
both_below n (k ∷ ks) ls first second = (first.0, both_below n ks ls first.1 second)

-- the blocks of a run and of those behind it
pub below_back : (n : ℕ) (rs : List Run) (i : ℕ) (r : Run) → i < length rs → (get_or rs i r).start + (get_or rs i r).count ≤ n
    → AreBelow n (blocks_of (drop (suc i) rs)) → AreBelow n (blocks_of (drop i rs))
below_back n [] i r low within rest = absurd (omega (arith, low))
below_back n (x ∷ xs) zero r low within rest = both_below n (run_blocks x) (blocks_of xs) (run_below n x.start x.count within) rest
below_back n (x ∷ xs) (suc i) r low within rest = below_back n xs i r (omega (arith, low)) within rest

pub none_left : (n : ℕ) (rs : List Run) (i : ℕ) → length rs ≤ i → AreBelow n (blocks_of (drop i rs))
none_left n [] zero past = tt
none_left n [] (suc i) past = tt
none_left n (x ∷ xs) zero past = absurd (omega (arith, past))
none_left n (x ∷ xs) (suc i) past = none_left n xs i (omega (arith, past))
