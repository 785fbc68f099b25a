-- What holds of each two elements of a list, and a list in another order.
use Rattle.std.proofs.Common.{◌≡◌, ◌<◌, ℕ, List, length, get_or, swap, AllPairs, refl, sym, ap, subst, ◌∙◌, arith, inl, inr}
use Rattle.std.specs.List.{enumerate_from}
use Rattle.std.specs.List.Sorted.{IsPermutation}
use Rattle.std.proofs.lemmas.Bool.{cases_lt, cases_eq}
use Rattle.std.proofs.lemmas.List.Edits.{swapped_from_swap, length-swap}
use Rattle.std.proofs.lemmas.List.FromFn.{length-enumerate_from, get_or-enumerate_from}
use Rattle.std.proofs.lemmas.List.Sorted.{IsPermutation-keeps}

-- of any two places
abbrev AnyTwo : {X : Type 0} → (X → X → Type 0) → List X → Type 0
AnyTwo {X} R xs = (i j : ℕ) (d : X) → i < length xs → j < length xs → (i ≡ j → ⊥) → R (get_or xs i d) (get_or xs j d)

-- the place that an element of a list comes from in which a and b changed places
abbrev IsFrom : ℕ → ℕ → ℕ → ℕ → Type 0
IsFrom a b i s = (i ≡ a → s ≡ b) × (i ≡ b → s ≡ a) × ((i ≡ a → ⊥) → (i ≡ b → ⊥) → s ≡ i)

-- two places come from two
still_two : (a b i j s t : ℕ) → (i ≡ j → ⊥) → IsFrom a b i s → IsFrom a b j t → s ≡ t → ⊥
still_two a b i j s t ne p q e =
    let p0 = p.0 in
    let p1 = p.1 in
    let p2 = p.2 in
    let q0 = q.0 in
    let q1 = q.1 in
    let q2 = q.2 in
    grind arith

module _ {X : Type 0} (R : X → X → Type 0) (flips : (x y : X) → R x y → R y x) where
  -- where it does not matter which of two is first
  any_two : (xs : List X) → AllPairs R xs → AnyTwo R xs
  any_two xs all i j d p q ne = elim (cases_lt i j) as (λ _. R (get_or xs i d) (get_or xs j d)) [
    | inl less ↦ all i j d less q
    | inr more ↦ flips (get_or xs j d) (get_or xs i d) (all j i d (omega arith) p)
  ]

  -- the place that an element of the changed list had
  came_from : (xs : List X) (a b : ℕ) → a < length xs → b < length xs → (i : ℕ) (d : X) → i < length xs → (s : ℕ) × (s < length xs) × (get_or (swap xs a b) i d ≡ get_or xs s d) × IsFrom a b i s
  came_from xs a b p q i d h =
      let moved = swapped_from_swap xs (swap xs a b) a b d p q refl in
      elim (cases_eq i a) as (λ _. (s : ℕ) × (s < length xs) × (get_or (swap xs a b) i d ≡ get_or xs s d) × IsFrom a b i s) [
        | inl is_a ↦ (b, q, ap (λ k. get_or (swap xs a b) k d) is_a ∙ moved.0, (λ e. refl, λ e. omega arith, λ u v. absurd (u is_a)))
        | inr not_a ↦ elim (cases_eq i b) as (λ _. (s : ℕ) × (s < length xs) × (get_or (swap xs a b) i d ≡ get_or xs s d) × IsFrom a b i s) [
          | inl is_b ↦ (a, p, ap (λ k. get_or (swap xs a b) k d) is_b ∙ moved.1, (λ e. absurd (not_a e), λ e. refl, λ u v. absurd (v is_b)))
          | inr not_b ↦ (i, h, moved.2 i not_a not_b, (λ e. absurd (not_a e), λ e. absurd (not_b e), λ u v. refl))
        ]
      ]

  -- it holds still when two change places
  swapped : (xs : List X) (a b : ℕ) → a < length xs → b < length xs → AnyTwo R xs → AnyTwo R (swap xs a b)
  swapped xs a b p q all i j d h g ne =
      let long = length-swap xs a b in
      let s = came_from xs a b p q i d (omega arith) in
      let t = came_from xs a b p q j d (omega arith) in
      let two = all s.0 t.0 d s.1 t.1 (still_two a b i j s.0 t.0 ne s.3 t.3) in
      subst (λ x. R x (get_or (swap xs a b) j d)) (sym s.2) (subst (λ y. R (get_or xs s.0 d) y) (sym t.2) two)

  -- and in any other order
  pub pairs_kept : (xs ys : List X) → IsPermutation xs ys → AllPairs R xs → AllPairs R ys
  pairs_kept xs ys moved all =
      let two = IsPermutation-keeps xs (AnyTwo R) (any_two xs all) (λ l a b p q h. swapped l a b p q h) ys moved in
      λ i j d less h. two i j d (omega arith) h (λ e. omega arith)

-- and of the elements with their numbers
pub pairs_enumerated : {X : Type 0} (R : X → X → Type 0) (n : ℕ) (xs : List X) → AllPairs R xs → AllPairs (λ (d e : ℕ × X). R d.1 e.1) (enumerate_from n xs)
pairs_enumerated {X = X} R n xs all i j d less h =
    let long = length-enumerate_from n xs in
    let first = get_or-enumerate_from n xs i d (omega arith) in
    let second = get_or-enumerate_from n xs j d (omega arith) in
    subst (λ (x : ℕ × X). R x.1 (get_or (enumerate_from n xs) j d).1) (sym first) (subst (λ (y : ℕ × X). R (get_or xs i d.1) y.1) (sym second) (all i j d.1 less (omega arith)))
