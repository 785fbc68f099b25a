-- What is in order stays so when each is made into a case.
use Rattle.std.proofs.Common.{◌≡◌, ℕ, ◌+◌, ◌<◌, ◌≤◌, List, [], ◌∷◌, length, map, slice_index_or, subst, sym, ap, ◌∙◌, arith}
use Rattle.std.proofs.lemmas.List.{get_or-map, length-map}
use Rattle.std.proofs.lemmas.List.Sorted.{length_permutation}
use Rattle.std.specs.List.Sorted.{IsNonDecreasingBy, IsSortedBy}
use Rattle.std.specs.Prelude.{Bool}
use Rattle.journal_layout.specs.Case.{Case}
use Rattle.case_tables.specs.Order.{IsShown}
use Rattle.case_tables.specs.declared.order.Order.{Order}
use Rattle.case_tables.specs.declared.order.Order.TheVariants.{Number, Time, Size, Name}

module _ {E : Type 0} (f : E → Case) where
  pub risen : (n : Case → ℕ) (es : List E) → IsNonDecreasingBy (λ e. n (f e)) es → IsNonDecreasingBy n (map f es)
  risen n [] rising i j d up below = absurd (omega (arith, below))
  risen n (e ∷ es) rising i j d up below =
      let l = length-map (e ∷ es) f in
      let low : i < length (e ∷ es) = omega (arith, up, below, l) in
      let high : j < length (e ∷ es) = omega (arith, below, l) in
      let a : n (slice_index_or (map f (e ∷ es)) i d) ≡ n (f (slice_index_or (e ∷ es) i e)) = ap n (get_or-map f (e ∷ es) i e d low) in
      let b : n (slice_index_or (map f (e ∷ es)) j d) ≡ n (f (slice_index_or (e ∷ es) j e)) = ap n (get_or-map f (e ∷ es) j e d high) in
      let up_to = rising i j e up high in
      subst (λ (m : ℕ). m ≤ n (slice_index_or (map f (e ∷ es)) j d)) (sym a) (subst (λ (m : ℕ). n (f (slice_index_or (e ∷ es) i e)) ≤ m) (sym b) up_to)

  pub sorted : (lt : Case → Case → Bool) (es : List E) → IsSortedBy (λ a b. lt (f a) (f b)) es → IsSortedBy lt (map f es)
  sorted lt [] in_order k d low below = absurd (omega (arith, below))
  sorted lt (e ∷ es) in_order k d low below =
      let l = length-map (e ∷ es) f in
      let next : k + 1 < length (e ∷ es) = omega (arith, below, l) in
      let this : k < length (e ∷ es) = omega (arith, below, l) in
      let a = get_or-map f (e ∷ es) (k + 1) e d next in
      let b = get_or-map f (e ∷ es) k e d this in
      ap (λ (c : Case). lt c (slice_index_or (map f (e ∷ es)) k d)) a ∙ ap (λ (c : Case). lt (f (slice_index_or (e ∷ es) (k + 1) e)) c) b ∙ in_order k e low next

-- as many cases are shown as there are
pub shown_length : (order : Order) (cases shown : List Case) → IsShown order cases shown → length shown ≡ length cases
shown_length Number cases shown is = ap length is
shown_length Time cases shown is = length_permutation cases shown is.0
shown_length Size cases shown is = length_permutation cases shown is.0
shown_length Name cases shown is = length_permutation cases shown is.0
