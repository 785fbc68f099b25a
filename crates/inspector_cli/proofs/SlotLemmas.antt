-- A slot that is set.
use Rattle.std.proofs.Common.{◌≡◌, ℕ, zero, suc, ◌+◌, ◌/◌, List, [], ◌∷◌, map, Option, Some, None, refl, ap, arith}
use Rattle.std.proofs.lemmas.List.Sums.{sum_by-cons}
use Rattle.std.specs.Prelude.{sum_by, option_map, slice_set}
use Rattle.intake.specs.State.{StreamFacts, filled_by}
use Rattle.intake.specs.Slots.{stream_at, closed}

pub set_again : {X : Type 0} (xs : List (Option X)) (slot : ℕ) (a b : Option X) → slice_set (slice_set xs slot a) slot b ≡ slice_set xs slot b
set_again [] slot a b = refl
set_again (x ∷ xs) zero a b = refl
set_again (x ∷ xs) (suc slot) a b = ap (λ ys. x ∷ ys) (set_again xs slot a b)

pub at_set : {X : Type 0} (xs : List (Option X)) (slot : ℕ) (s : X) (a : Option X) → stream_at xs slot ≡ Some s → stream_at (slice_set xs slot a) slot ≡ a
at_set [] slot s a is = cc
at_set (x ∷ xs) zero s a is = refl
at_set (x ∷ xs) (suc slot) s a is = at_set xs slot s a is

pub closed_set : {X : Type 0} (xs : List (Option X)) (slot : ℕ) (a : Option X) → closed (slice_set xs slot a) ≡ closed xs
closed_set [] slot a = refl
closed_set (x ∷ xs) zero a = refl
closed_set (x ∷ xs) (suc slot) a = ap (λ ys. None ∷ ys) (closed_set xs slot a)

pub sum_set : (xs : List (Option StreamFacts)) (slot : ℕ) (s t : StreamFacts) → stream_at xs slot ≡ Some s
    → sum_by filled_by (slice_set xs slot (Some t)) + s.len / 4096 ≡ sum_by filled_by xs + t.len / 4096
sum_set [] slot s t is = cc
sum_set (x ∷ xs) zero s t is =
    let a = sum_by-cons filled_by (Some t) xs in
    let b = sum_by-cons filled_by x xs in
    let e : filled_by x ≡ s.len / 4096 = ap filled_by is in
    omega (arith, a, b, e)
sum_set (x ∷ xs) (suc slot) s t is =
    let a = sum_by-cons filled_by x (slice_set xs slot (Some t)) in
    let b = sum_by-cons filled_by x xs in
    let e = sum_set xs slot s t is in
    omega (arith, a, b, e)

-- a view of what stands in the slots
pub at_mapped : {X Y : Type 0} (f : X → Y) (xs : List (Option X)) (slot : ℕ) → stream_at (map (option_map f) xs) slot ≡ option_map f (stream_at xs slot)
at_mapped f [] slot = refl
at_mapped f (x ∷ xs) zero = refl
at_mapped f (x ∷ xs) (suc slot) = at_mapped f xs slot

pub some_same : {X : Type 0} (x y : X) → Some x ≡ Some y → x ≡ y
some_same {X = X} x y is = ap (λ o. get o) is
  where
    get : Option X → X
    get None = x
    get (Some z) = z
