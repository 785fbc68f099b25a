-- Texts that are cut.
use Rattle.std.proofs.Common.{◌≡◌, ℕ, zero, suc, ◌-◌, ◌≤◌, List, [], ◌∷◌, ◌++◌, length, take, refl, sym, ap, ◌∙◌, arith}

-- what is cut, lengthened, and cut again
pub take-again : (n : ℕ) (a b : List ℕ) → take n (take n a ++ b) ≡ take n (a ++ b)
take-again zero a b = refl
take-again (suc n) [] b = refl
take-again (suc n) (x ∷ a) b = ap (λ (l : List ℕ). x ∷ l) (take-again n a b)

-- as much is appended as there is room for
pub take-room : (n : ℕ) (a b : List ℕ) → length a ≤ n → take n (a ++ b) ≡ a ++ take (n - length a) b
take-room n [] b fits = let e : n ≡ n - 0 = omega arith in ap (λ (k : ℕ). take k b) e
take-room zero (x ∷ a) b fits = absurd (omega (arith, fits))
take-room (suc n) (x ∷ a) b fits =
    let low : length a ≤ n = omega (arith, fits) in
    let e : n - length a ≡ suc n - suc (length a) = omega arith in
    ap (λ (l : List ℕ). x ∷ l) (take-room n a b low ∙ ap (λ (k : ℕ). a ++ take k b) e)

pub filled : (a b part : List ℕ) → length a ≤ 256 → part ≡ take (256 - length a) b → a ++ part ≡ take 256 (a ++ b)
filled a b part fits is = ap (λ (l : List ℕ). a ++ l) is ∙ sym (take-room 256 a b fits)

pub joins : (a b x y : List ℕ) → x ≡ take 256 ([] ++ a) → y ≡ take 256 (x ++ b) → y ≡ take 256 (a ++ b)
joins a b x y first second = second ∙ ap (λ (l : List ℕ). take 256 (l ++ b)) first ∙ take-again 256 a b

pub joins_more : (a b d x y : List ℕ) → x ≡ take 256 (a ++ b) → y ≡ take 256 (x ++ d) → y ≡ take 256 (a ++ b ++ d)
joins_more a b d x y first second =
    second ∙ ap (λ (l : List ℕ). take 256 (l ++ d)) first ∙ take-again 256 (a ++ b) d
