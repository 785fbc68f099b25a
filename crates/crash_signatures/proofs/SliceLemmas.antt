-- Words of a part of a slice.
use Rattle.std.proofs.Common.{◌≡◌, ℕ, zero, suc, ◌+◌, ◌-◌, ◌<◌, [], ◌∷◌, ◌++◌, get_or, Bool, true, false, List, length, take, drop, map, min, refl, sym, ap, ◌∙◌, arith}
use Rattle.std.proofs.lemmas.Bool.{leb-false, leb-true}
use Rattle.std.specs.Prelude.{nat_le}
use Rattle.std.proofs.lemmas.List.{drop-map, length-drop, take-map, take_all}
use Rattle.crash_signatures.specs.WordViews.{said}
use Rattle.crash_signatures.specs.declared.words.Word.{Word}

-- from a place on
pub said_from : (xs : List Word) (n : ℕ) → map said (take (length xs - n) (drop n xs)) ≡ drop n (map said xs)
said_from xs n =
    let e = length-drop n xs in
    ap (map said) (take_all (length xs - n) (drop n xs) (omega (arith, e))) ∙ sym (drop-map said n xs)

-- up to a place
pub said_to : (xs : List Word) (n : ℕ) → map said (take n xs) ≡ take n (map said xs)
said_to xs n = sym (take-map said n xs)

-- from one place to another
pub said_within : (xs : List Word) (n k j : ℕ) → k ≡ j → map said (take k (drop n xs)) ≡ take j (drop n (map said xs))
said_within xs n k j same = sym (take-map said k (drop n xs)) ∙ ap (take k) (sym (drop-map said n xs)) ∙ ap (λ (m : ℕ). take m (drop n (map said xs))) same

-- as many as there are, if they are fewer
pub front_same : {A : Type 0} → (n k : ℕ) (xs : List A) → n ≡ min (length xs) k → take n xs ≡ take k xs
front_same n k xs is = by (nat_le k (length xs)) refl
  where
    by : (t : Bool) → nat_le k (length xs) ≡ t → take n xs ≡ take k xs
    by true long = let l = leb-true k (length xs) long in let e : n ≡ k = omega (arith, l, is) in ap (λ (i : ℕ). take i xs) e
    by false short = let l = leb-false k (length xs) short in take_all n xs (omega (arith, l, is)) ∙ sym (take_all k xs (omega (arith, l)))

-- one more than so many
pub take_one_more : {A : Type 0} → (xs : List A) (at : ℕ) (d : A) → at < length xs → take (at + 1) xs ≡ take at xs ++ get_or xs at d ∷ []
take_one_more {A} xs at d below = let e : at + 1 ≡ suc at = omega arith in ap (λ (n : ℕ). take n xs) e ∙ by xs at below
  where
    by : (xs : List A) (at : ℕ) → at < length xs → take (suc at) xs ≡ take at xs ++ get_or xs at d ∷ []
    by [] n below = absurd (omega (arith, below))
    by (y ∷ ys) zero below = refl
    by (y ∷ ys) (suc n) below = ap (λ (l : List A). y ∷ l) (by ys n (omega (arith, below)))
