-- The numbers of what is dropped rise, as those of all cases do.
use Rattle.std.proofs.Common.{◌≡◌, ℕ, zero, suc, ◌+◌, ◌<◌, true, false, List, [], ◌∷◌, length, get_or, map, sym, arith, subst, ⊎_elim}
use Rattle.std.proofs.lemmas.Bool.{cases_Bool}
use Rattle.std.proofs.lemmas.List.Kept.{AllPairs-from_increasing}
use Rattle.std.specs.List.{AllByRecursion}
use Rattle.std.specs.List.Sorted.{IsStrictlyIncreasing}
use Rattle.retention.specs.declared.Brief.{Brief}
use Rattle.retention.specs.declared.Policy.{Policy}
use Rattle.retention.specs.Rule.{is_old, is_spare, goes, seq_of}

-- each number is below all later ones
abbrev Rises : List ℕ → Type 0
Rises [] = Unit {0}
Rises (x ∷ xs) = AllByRecursion (λ y. x < y) xs × Rises xs

above_first : (x : ℕ) (xs : List ℕ) → ((k : ℕ) → k < length xs → x < get_or xs k 0) → AllByRecursion (λ y. x < y) xs
above_first x [] above = tt
above_first x (y ∷ ys) above = (above 0 (omega arith), above_first x ys (λ k lt. above (suc k) (omega arith)))

rises_from_pairs : (xs : List ℕ) → ((i j : ℕ) → i < j → j < length xs → get_or xs i 0 < get_or xs j 0) → Rises xs
rises_from_pairs [] pairs = tt
rises_from_pairs (x ∷ xs) pairs = (
  above_first x xs (λ k lt. pairs 0 (suc k) (omega arith) (omega arith)),
  rises_from_pairs xs (λ i j below lt. pairs (suc i) (suc j) (omega arith) (omega arith)),
)

increasing_from_rises : (xs : List ℕ) → Rises xs → (k : ℕ) → suc k < length xs → get_or xs k 0 < get_or xs (suc k) 0
increasing_from_rises [] rises k lt = absurd (omega arith)
increasing_from_rises (x ∷ []) rises k lt = absurd (omega arith)
increasing_from_rises (x ∷ y ∷ ys) rises zero lt = rises.0.0
increasing_from_rises (x ∷ y ∷ ys) rises (suc k) lt = increasing_from_rises (y ∷ ys) rises.1 k (omega arith)

-- what is dropped is above what all cases are above
goes_above : (policy : Policy) (x n : ℕ) (cases : List Brief) → AllByRecursion (λ y. x < y) (map seq_of cases) → AllByRecursion (λ y. x < y) (map seq_of (goes policy n cases))
goes_above policy x n [] above = tt
goes_above policy x zero (c ∷ cs) above =
    ⊎_elim
    (λ (old : is_old policy c ≡ true). rw old (above.0, goes_above policy x 0 cs above.1))
    (λ (young : is_old policy c ≡ false). rw young (goes_above policy x 0 cs above.1))
    (cases_Bool (is_old policy c))
goes_above policy x (suc n) (c ∷ cs) above =
    ⊎_elim
    (λ (old : is_old policy c ≡ true). rw old (above.0, goes_above policy x (suc n) cs above.1))
    (λ (young : is_old policy c ≡ false). ⊎_elim
    (λ (spare : is_spare policy c ≡ true). rw (young, spare) (above.0, goes_above policy x n cs above.1))
    (λ (other : is_spare policy c ≡ false). rw (young, other) (goes_above policy x (suc n) cs above.1))
    (cases_Bool (is_spare policy c)))
    (cases_Bool (is_old policy c))

goes_rises : (policy : Policy) (n : ℕ) (cases : List Brief) → Rises (map seq_of cases) → Rises (map seq_of (goes policy n cases))
goes_rises policy n [] rises = tt
goes_rises policy zero (c ∷ cs) rises =
    ⊎_elim
    (λ (old : is_old policy c ≡ true). rw old (goes_above policy c.seq 0 cs rises.0, goes_rises policy 0 cs rises.1))
    (λ (young : is_old policy c ≡ false). rw young (goes_rises policy 0 cs rises.1))
    (cases_Bool (is_old policy c))
goes_rises policy (suc n) (c ∷ cs) rises =
    ⊎_elim
    (λ (old : is_old policy c ≡ true). rw old (goes_above policy c.seq (suc n) cs rises.0, goes_rises policy (suc n) cs rises.1))
    (λ (young : is_old policy c ≡ false). ⊎_elim
    (λ (spare : is_spare policy c ≡ true). rw (young, spare) (goes_above policy c.seq n cs rises.0, goes_rises policy n cs rises.1))
    (λ (other : is_spare policy c ≡ false). rw (young, other) (goes_rises policy (suc n) cs rises.1))
    (cases_Bool (is_spare policy c)))
    (cases_Bool (is_old policy c))

pub dropped_rise : (policy : Policy) (n : ℕ) (cases : List Brief) (dropped : List ℕ) → dropped ≡ map seq_of (goes policy n cases) → IsStrictlyIncreasing (map seq_of cases) → IsStrictlyIncreasing dropped
dropped_rise policy n cases dropped is increasing =
    let pairs = AllPairs-from_increasing (map seq_of cases) increasing in
    let rises = goes_rises policy n cases (rises_from_pairs (map seq_of cases) (λ i j below lt. pairs i j 0 below lt)) in
    subst IsStrictlyIncreasing (sym is) (λ k lt. let next : suc k ≡ k + 1 = omega arith in subst (λ j. get_or (map seq_of (goes policy n cases)) k 0 < get_or (map seq_of (goes policy n cases)) j 0) next (increasing_from_rises _ rises k (omega arith)))
