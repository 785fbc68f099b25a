-- Numbers that rise.
use Rattle.std.proofs.Common.{◌≡◌, ◌<◌, ◌≤◌, ℕ, zero, suc, ◌+◌, Bool, true, false, not, cond, ◌||◌, ◌==◌, List, [], ◌∷◌, length, get_or, map, Result, Ok, Err, MatchResult, refl, sym, ap, subst, ◌∙◌, arith, ⊎_elim}
use Rattle.std.proofs.lemmas.Bool.{cases_lt, eq-eqb, ne_eqb}
use Rattle.std.proofs.lemmas.List.Kept.{AllPairs-from_increasing}
use Rattle.std.proofs.lemmas.List.Sorted.{searched}
use Rattle.std.specs.List.{AllByRecursion, filter}
use Rattle.std.specs.List.Sorted.{IsStrictlyIncreasing, IsBinarySearchResult}
use Rattle.std.specs.Ordering.{nat_cmp}
use Rattle.std.specs.Result.{is_err}
use Rattle.pruning.specs.Cases.{is_among}

-- each number is below all later ones
abbrev pub Rises : List ℕ → Type 0
Rises [] = Unit {0}
Rises (x ∷ xs) = AllByRecursion (λ y. x < y) xs × Rises xs

above_first : (x : ℕ) (xs : List ℕ) → ((k : ℕ) → k < length xs → x < get_or xs k 0) → AllByRecursion (λ y. x < y) xs
above_first x [] above = tt
above_first x (y ∷ ys) above = (above 0 (omega arith), above_first x ys (λ k lt. above (suc k) (omega arith)))

from_pairs : (xs : List ℕ) → ((i j : ℕ) → i < j → j < length xs → get_or xs i 0 < get_or xs j 0) → Rises xs
from_pairs [] pairs = tt
from_pairs (x ∷ xs) pairs = (
  above_first x xs (λ k lt. pairs 0 (suc k) (omega arith) (omega arith)),
  from_pairs xs (λ i j below lt. pairs (suc i) (suc j) (omega arith) (omega arith)),
)

pub rises : (xs : List ℕ) → IsStrictlyIncreasing xs → Rises xs
rises xs increasing = let pairs = AllPairs-from_increasing xs increasing in from_pairs xs (λ i j below lt. pairs i j 0 below lt)

next_above : (xs : List ℕ) → Rises xs → (k : ℕ) → suc k < length xs → get_or xs k 0 < get_or xs (suc k) 0
next_above [] rise k lt = absurd (omega arith)
next_above (x ∷ []) rise k lt = absurd (omega arith)
next_above (x ∷ y ∷ ys) rise zero lt = rise.0.0
next_above (x ∷ y ∷ ys) rise (suc k) lt = next_above (y ∷ ys) rise.1 k (omega arith)

pub increasing : (xs : List ℕ) → Rises xs → IsStrictlyIncreasing xs
increasing xs rise k lt = let next : suc k ≡ k + 1 = omega arith in subst (λ j. get_or xs k 0 < get_or xs j 0) next (next_above xs rise k (omega arith))

-- a part of what rises, in its order
pub above_kept : {X : Type 0} (f : X → ℕ) (p : X → Bool) (n : ℕ) (xs : List X) → AllByRecursion (λ y. n < y) (map f xs) → AllByRecursion (λ y. n < y) (map f (filter p xs))
above_kept f p n [] above = tt
above_kept {X} f p n (x ∷ xs) above =
    let rest = above_kept f p n xs above.1 in
    by (p x) rest
  where
    by : (t : Bool) → AllByRecursion (λ y. n < y) (map f (filter p xs)) → AllByRecursion (λ y. n < y) (map f (cond t (x ∷ filter p xs) (filter p xs)))
    by true rest = (above.0, rest)
    by false rest = rest

pub kept_rises : {X : Type 0} (f : X → ℕ) (p : X → Bool) (xs : List X) → Rises (map f xs) → Rises (map f (filter p xs))
kept_rises f p [] rise = tt
kept_rises {X} f p (x ∷ xs) rise = by (p x) (kept_rises f p xs rise.1)
  where
    by : (t : Bool) → Rises (map f (filter p xs)) → Rises (map f (cond t (x ∷ filter p xs) (filter p xs)))
    by true rest = (above_kept f p (f x) xs rise.0, rest)
    by false rest = rest

-- whether a number is among others
pub or_true : (b : Bool) {c : Bool} → c ≡ true → (b || c) ≡ true
or_true true e = refl
or_true false e = e

among_at : (ns : List ℕ) (n i : ℕ) → i < length ns → get_or ns i 0 ≡ n → is_among ns n ≡ true
among_at [] n i below is = absurd (omega arith)
among_at (m ∷ ms) n zero below is = ap (λ (b : Bool). b || is_among ms n) (eq-eqb m n is)
among_at (m ∷ ms) n (suc i) below is = or_true (m == n) (among_at ms n i (omega arith) is)

not_among : (ns : List ℕ) (n : ℕ) → ((k : ℕ) → k < length ns → get_or ns k 0 ≡ n → ⊥) → is_among ns n ≡ false
not_among [] n none = refl
not_among (m ∷ ms) n none =
    ap (λ (b : Bool). b || is_among ms n) (ne_eqb m n (λ e. none zero (omega arith) e)) ∙ not_among ms n (λ k below e. none (suc k) (omega arith) e)

in_order : (ns : List ℕ) → IsStrictlyIncreasing ns → (i j : ℕ) → i ≤ j → j < length ns → get_or ns i 0 ≤ get_or ns j 0
in_order ns rise i j le lt =
    ⊎_elim
    (λ (below : i < j). let less = AllPairs-from_increasing ns rise i j 0 below lt in omega (arith, less))
    (λ (above : j ≤ i). let same : i ≡ j = omega (arith, le, above) in subst (λ k. get_or ns i 0 ≤ get_or ns k 0) same (omega arith))
    (cases_lt i j)

-- what a search among numbers that rise finds
pub not_found : (ns : List ℕ) (n : ℕ) (r : Result ℕ ℕ) → IsStrictlyIncreasing ns → IsBinarySearchResult (λ (y : ℕ). nat_cmp y n) ns r → is_err r ≡ not (is_among ns n)
not_found ns n r rise position = by r (searched ns n r position (in_order ns rise))
  where
    by : (r : Result ℕ ℕ) → MatchResult r (λ i. (i < length ns) × (get_or ns i 0 ≡ n)) (λ i. (i ≤ length ns) × ((k : ℕ) → k < i → get_or ns k 0 < n) × ((k : ℕ) → i ≤ k → k < length ns → n < get_or ns k 0)) → is_err r ≡ not (is_among ns n)
    by (Ok i) (below, is) = ap not (sym (among_at ns n i below is))
    by (Err i) (within, before, behind) =
        ap not (sym (not_among ns n (λ k lt is. ⊎_elim (λ (b : k < i). let less = before k b in omega (arith, less, is)) (λ (b : i ≤ k). let more = behind k b lt in omega (arith, more, is)) (cases_lt k i))))
