-- The first of the stretches of addresses, and those after it.
use Rattle.std.proofs.Common.{◌≡◌, ◌<◌, ℕ, zero, suc, ◌+◌, ◌-◌, eqb, cond, Bool, true, false, List, [], ◌∷◌, map, Option, None, Some, refl, sym, ap, subst, ◌∙◌, arith, inl, inr}
use Rattle.std.proofs.lemmas.Bool.{and_from, eq-eqb, cond-true, cond-false, cases_lt}
use Rattle.address_space.specs.Source.{Space, Place, nowhere, dumped, cut_off, unwritten, in_file, place_at}
use Rattle.address_space.specs.Pieces.{same_number, is_same, grown, stretches, piece_of, is_same_at, pieces_of}
use Rattle.address_space.specs.Ranges.{IsStretch}

number_itself : {A : Type 0} (x : Option (ℕ × A)) → same_number x x ≡ true
number_itself None = refl
number_itself (Some x) = eq-eqb x.0 x.0 refl

same_itself : (p : Place) → is_same p p ≡ true
same_itself nowhere = refl
same_itself (dumped i s) = eq-eqb i i refl
same_itself (cut_off i) = eq-eqb i i refl
same_itself (unwritten i e) = and_from (eqb i i) (same_number e e) (eq-eqb i i refl) (number_itself e)
same_itself (in_file i e x) = and_from (eqb i i) (eqb e.0 e.0) (eq-eqb i i refl) (eq-eqb e.0 e.0 refl)

-- the first address of the first stretch
abbrev StartsAt : ℕ → List (ℕ × ℕ) → Type 0
StartsAt a [] = ⊥
StartsAt a (x ∷ xs) = x.0 ≡ a

grown_starts : (same : ℕ → ℕ → Bool) (a : ℕ) (xs : List (ℕ × ℕ)) → StartsAt a (grown same a xs)
grown_starts same a [] = refl
grown_starts same a (x ∷ xs) = elim (same a x.0) as (λ t. StartsAt a (cond t ((a, x.1 + 1) ∷ xs) ((a, 1) ∷ x ∷ xs))) [ true ↦ refl | false ↦ refl ]

starts : (same : ℕ → ℕ → Bool) (a n : ℕ) → 0 < n → StartsAt a (stretches same a n)
unfolding stretches
starts same a zero h = absurd (omega arith)
starts same a (suc n) h = grown_starts same a (stretches same (a + 1) n)

-- an address that is not the same as the next is alone
alone : (same : ℕ → ℕ → Bool) (a b : ℕ) (xs : List (ℕ × ℕ)) → StartsAt b xs → same a b ≡ false → grown same a xs ≡ (a, 1) ∷ xs
alone same a b [] h apart = absurd h
alone same a b (x ∷ xs) h apart = cond-false (same a x.0) _ _ (ap (same a) h ∙ apart)

one_alone : (same : ℕ → ℕ → Bool) (a r : ℕ) → (0 < r → same a (a + 1) ≡ false) → grown same a (stretches same (a + 1) r) ≡ (a, 1) ∷ stretches same (a + 1) r
unfolding stretches
one_alone same a zero h = refl
one_alone same a (suc r) h = alone same a (a + 1) (stretches same (a + 1) (suc r)) (starts same (a + 1) (suc r) (omega arith)) (h (omega arith))

-- m + 1 addresses in a row are one stretch where each is the same as its neighbour and the last is not as the one after
first_stretch : (same : ℕ → ℕ → Bool) (m a r : ℕ) → ((k : ℕ) → k < m → same (a + k) (a + k + 1) ≡ true) → (0 < r → same (a + m) (a + m + 1) ≡ false) → stretches same a (suc m + r) ≡ (a, suc m) ∷ stretches same (a + suc m) r
unfolding stretches
first_stretch same zero a r joined ends =
    let zeros : a + 0 ≡ a = omega arith in
    let one : suc 0 + r ≡ suc r = omega arith in
    let next : a + 1 ≡ a + suc 0 = omega arith in
    ap (stretches same a) one ∙ one_alone same a r (λ h. subst (λ b. same b (b + 1) ≡ false) zeros (ends h)) ∙ ap (λ b. (a, 1) ∷ stretches same b r) next
first_stretch same (suc m) a r joined ends =
    let size : suc (suc m) + r ≡ suc (suc m + r) = omega arith in
    let zeros : a + 0 ≡ a = omega arith in
    let last : a + 1 + m ≡ a + suc m = omega arith in
    let next : a + 1 + suc m ≡ a + suc (suc m) = omega arith in
    let more : suc m + 1 ≡ suc (suc m) = omega arith in
    let behind = first_stretch same m (a + 1) r
    (λ k h. let place : a + suc k ≡ a + 1 + k = omega arith in subst (λ b. same b (b + 1) ≡ true) place (joined (suc k) (omega arith)))
    (λ h. subst (λ b. same b (b + 1) ≡ false) (sym last) (ends h)) in
    ap (stretches same a) size
    ∙ ap (grown same a) behind
    ∙ cond-true (same a (a + 1)) _ _ (subst (λ b. same b (b + 1) ≡ true) zeros (joined 0 (omega arith)))
    ∙ ap (λ q. (a, q) ∷ stretches same (a + 1 + suc m) r) more
    ∙ ap (λ b. (a, suc (suc m)) ∷ stretches same b r) next

-- a stretch of one place is a piece, and the others are those of what is left
pub next_piece : (space : Space) (a n m : ℕ) → IsStretch (place_at space) a n m → pieces_of space a n ≡ piece_of space (a, m) ∷ pieces_of space (a + m) (n - m)
unfolding pieces_of
next_piece space a n m s =
    let some = s.some in
    let within = s.within in
    let d = m - 1 in
    let is : suc d ≡ m = omega arith in
    let whole : suc d + (n - m) ≡ n = omega arith in
    let place = place_at space in
    let first = first_stretch (is_same_at space) d a (n - m)
    (λ k h.
    let here = s.same k (omega arith) in
    let there : place (a + (k + 1)) ≡ place a = s.same (k + 1) (omega arith) in
    let at : a + (k + 1) ≡ a + k + 1 = omega arith in
    ap (λ p. is_same p (place (a + k + 1))) here ∙ ap (λ b. is_same (place a) (place b)) (sym at) ∙ ap (is_same (place a)) there ∙ same_itself (place a))
    (λ h.
    let here = s.same d (omega arith) in
    let at : a + m ≡ a + d + 1 = omega arith in
    ap (λ p. is_same p (place (a + d + 1))) here ∙ ap (λ b. is_same (place a) (place b)) (sym at) ∙ s.longest (omega arith)) in
    ap (λ q. map (piece_of space) (stretches (is_same_at space) a q)) (sym whole)
    ∙ ap (map (piece_of space)) first
    ∙ ap (λ q. piece_of space (a, q) ∷ map (piece_of space) (stretches (is_same_at space) (a + q) (n - m))) is

-- no addresses have no pieces
pub no_pieces : (space : Space) (a n : ℕ) → n ≡ 0 → pieces_of space a n ≡ []
unfolding pieces_of stretches
no_pieces space a n h = ap (λ q. map (piece_of space) (stretches (is_same_at space) a q)) h

-- where nothing is left the place doesn't matter
pub pieces_onward : (space : Space) (a b n : ℕ) → (0 < n → a ≡ b) → pieces_of space a n ≡ pieces_of space b n
pieces_onward space a b n h = elim (cases_lt 0 n) as (λ _. pieces_of space a n ≡ pieces_of space b n) [
  | inl some ↦ ap (λ q. pieces_of space q n) (h some)
  | inr none ↦ let zero : n ≡ 0 = omega arith in no_pieces space a n zero ∙ sym (no_pieces space b n zero)
]
