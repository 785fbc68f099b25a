-- The bytes that a piece has.
use Rattle.std.proofs.Common.{◌≡◌, ℕ, zero, suc, ◌+◌, ◌-◌, List, [], ◌∷◌, take, drop, refl, sym, ap, ◌∙◌, arith}

drop_none : (n : ℕ) → drop {A = ℕ} n [] ≡ []
drop_none zero = refl
drop_none (suc n) = refl

take_none : (n : ℕ) → take {A = ℕ} n [] ≡ []
take_none zero = refl
take_none (suc n) = refl

drop_both : (n m : ℕ) (xs : List ℕ) → drop (n + m) xs ≡ drop m (drop n xs)
drop_both zero m xs = let e : zero + m ≡ m = omega arith in ap (λ (k : ℕ). drop k xs) e
drop_both (suc n) m [] = drop_none (suc n + m) ∙ sym (drop_none m)
drop_both (suc n) m (x ∷ xs) =
    let e : suc n + m ≡ suc (n + m) = omega arith in
    ap (λ (k : ℕ). drop k (x ∷ xs)) e ∙ drop_both n m xs

take_drop : (n m : ℕ) (xs : List ℕ) → take (m - n) (drop n xs) ≡ drop n (take m xs)
take_drop zero m xs = let e : m - zero ≡ m = omega arith in ap (λ (k : ℕ). take k xs) e
take_drop (suc n) m [] = take_none (m - suc n) ∙ sym (ap (λ (l : List ℕ). drop (suc n) l) (take_none m) ∙ drop_none (suc n))
take_drop (suc n) zero (x ∷ xs) = let e : zero - suc n ≡ zero = omega arith in ap (λ (k : ℕ). take k (drop n xs)) e
take_drop (suc n) (suc m) (x ∷ xs) =
    let e : suc m - suc n ≡ m - n = omega arith in
    ap (λ (k : ℕ). take k (drop n xs)) e ∙ take_drop n m xs

-- the rest of what lies between two places
pub rest_between : (xs : List ℕ) (start end n : ℕ) → take (end - (start + n)) (drop (start + n) xs) ≡ drop n (take (end - start) (drop start xs))
rest_between xs start end n =
    let e : end - (start + n) ≡ (end - start) - n = omega arith in
    ap (λ (k : ℕ). take k (drop (start + n) xs)) e ∙ ap (λ (l : List ℕ). take ((end - start) - n) l) (drop_both start n xs) ∙ take_drop n (end - start) (drop start xs)
