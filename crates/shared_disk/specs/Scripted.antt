-- A disk of which each moment is given, and the bytes that it holds between two looks.
use Rattle.std.proofs.Common.{◌≡◌, ◌⊎◌, inl, inr, ℕ, zero, suc, ◌+◌, ◌≤◌, List, [], ◌∷◌, ◌++◌, refl, sym, ap, subst, ◌∙◌, arith}
use Rattle.shared_disk.specs.History.{moment}
use Rattle.shared_disk.specs.Meanwhile.{EndsWith, IsHeld}

-- the moment of number k, and so many behind it
abbrev pub span : List (List ℕ) → ℕ → ℕ → List (List ℕ)
span moments k zero = moment moments k ∷ []
span moments k (suc more) = moment moments k ∷ span moments (k + 1) more

next_moment : (moments : List (List ℕ)) (k more : ℕ) → moment moments (k + 1 + more) ≡ moment moments (k + suc more)
next_moment moments k more =
    let e : k + 1 + more ≡ k + suc more = omega arith in
    ap (moment moments) e

-- each of them is held
pub span_has : (moments : List (List ℕ)) (k more n : ℕ) → n ≤ more → IsHeld (span moments k more) (moment moments (k + n))
span_has moments k zero zero low = inl (ap (moment moments) (omega arith))
span_has moments k zero (suc n) low = absurd (omega (arith, low))
span_has moments k (suc more) zero low = inl (ap (moment moments) (omega arith))
span_has moments k (suc more) (suc n) low =
    inr (subst (λ (c : List ℕ). IsHeld (span moments (k + 1) more) c) (next_moment moments k n) (span_has moments (k + 1) more n (omega (arith, low))))

-- the last of them ends them
pub span_ends : (moments : List (List ℕ)) (k more : ℕ) → EndsWith (span moments k more) (moment moments (k + more))
span_ends moments k zero = ([], ap (λ (c : List ℕ). c ∷ []) (ap (moment moments) (omega arith)))
span_ends moments k (suc more) =
    let e = span_ends moments (k + 1) more in (
      moment moments k ∷ e.0,
      ap (λ (l : List (List ℕ)). moment moments k ∷ l) (e.1 ∙ ap (λ (c : List ℕ). e.0 ++ c ∷ []) (next_moment moments k more)),
    )

-- a property of each of them is a property of the bytes that are held
pub span_all : (P : List ℕ → Type 0) (moments : List (List ℕ)) (k more : ℕ) → ((n : ℕ) → n ≤ more → P (moment moments (k + n))) → (c : List ℕ) → IsHeld (span moments k more) c → P c
span_all P moments k zero all c (inl is) =
    let e : k + 0 ≡ k = omega arith in
    subst P (sym is) (subst (λ (j : ℕ). P (moment moments j)) e (all 0 (omega arith)))
span_all P moments k zero all c (inr none) = absurd none
span_all P moments k (suc more) all c (inl is) =
    let e : k + 0 ≡ k = omega arith in
    subst P (sym is) (subst (λ (j : ℕ). P (moment moments j)) e (all 0 (omega arith)))
span_all P moments k (suc more) all c (inr later) =
    span_all P moments (k + 1) more (λ n low. subst P (sym (next_moment moments k n)) (all (suc n) (omega (arith, low)))) c later
