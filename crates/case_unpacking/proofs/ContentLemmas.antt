-- Files for which an executable is used, and their places, one after the other.
use Rattle.std.proofs.Common.{◌≡◌, ◌<◌, ◌≤◌, ◌+◌, ℕ, zero, suc, List, [], ◌∷◌, ◌++◌, length, map, take, get_or, refl, ap, sym, ◌∙◌, arith, append-nil, append_assoc}
use Rattle.std.proofs.lemmas.Grind.{flat_map-append}
use Rattle.std.proofs.lemmas.List.{map-append, take_more}
use Rattle.std.specs.List.{flat_map, zip}
use Rattle.case_unpacking.specs.Places.{FileSaid}
use Rattle.case_info.specs.Unpacking.{UnpackedValue, unpacked_view}
use Rattle.case_unpacking.specs.Contents.{files_said, said_with}
use Rattle.case_info.specs.declared.unpacked_files.UnpackedFile.{UnpackedFile}

-- one file more
pub said_more : (xs : List UnpackedFile) (i : ℕ) (x : UnpackedFile) → i < length xs → x ≡ get_or xs i x
    → files_said (map unpacked_view (take i xs)) ++ said_with x.name.items x.case ≡ files_said (map unpacked_view (take (i + 1) xs))
said_more xs i x within is =
    let one : List FileSaid = said_with x.name.items x.case in
    ap (λ t. files_said (map unpacked_view (take i xs)) ++ t) (sym (append-nil one))
    ∙ sym (flat_map-append (λ (f : UnpackedValue). said_with f.name f.case) (map unpacked_view (take i xs)) (unpacked_view x ∷ []))
    ∙ ap files_said (sym (map-append unpacked_view (take i xs) (x ∷ [])))
    ∙ ap (λ (y : UnpackedFile). files_said (map unpacked_view (take i xs ++ y ∷ []))) is
    ∙ sym (ap (λ (ys : List UnpackedFile). files_said (map unpacked_view ys)) (take_more xs i x within))

-- one pair more
pairs_next : {A B C : Type 0} (f : A × B → List C) (xs : List A) (ys : List B) (i : ℕ) (d : A) (e : B) → i < length xs → i < length ys
    → flat_map f (zip (take i xs) (take i ys)) ++ f (get_or xs i d, get_or ys i e) ≡ flat_map f (zip (take (suc i) xs) (take (suc i) ys))
pairs_next f [] ys i d e low high = absurd (omega (arith, low))
pairs_next f (a ∷ xs) [] i d e low high = absurd (omega (arith, high))
pairs_next f (a ∷ xs) (b ∷ ys) zero d e low high = sym (append-nil (f (a, b)))
pairs_next f (a ∷ xs) (b ∷ ys) (suc i) d e low high =
    append_assoc (f (a, b)) (flat_map f (zip (take i xs) (take i ys))) (f (get_or xs i d, get_or ys i e))
    ∙ ap (λ t. f (a, b) ++ t) (pairs_next f xs ys i d e (omega (arith, low)) (omega (arith, high)))

pub pairs_more : {A B C : Type 0} (f : A × B → List C) (xs : List A) (ys : List B) (i : ℕ) (d : A) (e : B) → i < length xs → i < length ys
    → flat_map f (zip (take i xs) (take i ys)) ++ f (get_or xs i d, get_or ys i e) ≡ flat_map f (zip (take (i + 1) xs) (take (i + 1) ys))
pairs_more f xs ys i d e low high =
    let next : suc i ≡ i + 1 = omega arith in
    pairs_next f xs ys i d e low high ∙ ap (λ (k : ℕ). flat_map f (zip (take k xs) (take k ys))) next

-- beyond the end of one of them there is no pair
pub pairs_all : {A B : Type 0} (xs : List A) (ys : List B) (n : ℕ) → (n < length xs → length ys ≤ n) → zip (take n xs) (take n ys) ≡ zip xs ys
pairs_all [] ys zero past = refl
pairs_all [] ys (suc n) past = refl
pairs_all (a ∷ xs) [] zero past = refl
pairs_all (a ∷ xs) [] (suc n) past = refl
pairs_all (a ∷ xs) (b ∷ ys) zero past = absurd (let over = past (omega arith) in omega (arith, over))
pairs_all {A} {B} (a ∷ xs) (b ∷ ys) (suc n) past = ap (λ (t : List (A × B)). (a, b) ∷ t) (pairs_all xs ys n (λ low. let over = past (omega (arith, low)) in omega (arith, over)))
