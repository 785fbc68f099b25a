-- The letters of an augmentation string, one by one.
use Rattle.std.proofs.Common.{◌≡◌, ◌<◌, ◌≤◌, ◌+◌, ◌-◌, ◌&&◌, ℕ, suc, Bool, true, false, cond, ltb, List, [], ◌∷◌, Option, Some, None, length, get_or, take, drop, ap, ◌∙◌, sym, arith}
use Rattle.std.specs.Option.{option_and_then}
use Rattle.std.specs.List.{position, position_or_len}
use Rattle.std.proofs.lemmas.List.{length-drop, take_all, drop_all}
use Rattle.std.proofs.lemmas.Bool.{lt-ltb, le-ltb}
use Rattle.std.proofs.Math.Seq.{drop-cons}
use Rattle.memchr.specs.Find.{IsFirstByte, is_byte}
use Rattle.elf_view.proofs.NulPlaces.{found_at, found_none}
use Rattle.call_frames.specs.Augmentation.{is_new_letter, are_letters, letter_size, encoding_with, encoding_among}

-- all bytes after a place
pub all_behind : (xs : List ℕ) (k : ℕ) → take (length xs - k) (drop k xs) ≡ drop k xs
all_behind xs k = take_all (length xs - k) (drop k xs) (omega (arith, length-drop k xs))

-- the first of those that are left
pub first_left : (xs : List ℕ) (i : ℕ) → i < length xs → drop i xs ≡ get_or xs i 0 ∷ drop (i + 1) xs
first_left xs i h =
    let up : suc i ≡ i + 1 = omega arith in drop-cons xs i 0 h ∙ ap (λ k. get_or xs i 0 ∷ drop k xs) up

pub none_left : (xs : List ℕ) (i : ℕ) → length xs ≤ i → drop i xs ≡ []
none_left xs i h = drop_all i xs h

letter_first : (xs : List ℕ) (i : ℕ) (t : Bool) → i < length xs → is_new_letter (get_or xs i 0) (take (length xs - (i + 1)) (drop (i + 1) xs)) ≡ t → are_letters (drop i xs) ≡ (t && are_letters (drop (i + 1) xs))
unfolding are_letters
letter_first xs i t h is =
    ap are_letters (first_left xs i h)
    ∙ ap (λ ys. is_new_letter (get_or xs i 0) ys && are_letters (drop (i + 1) xs)) (sym (all_behind xs (i + 1)))
    ∙ ap (λ u. u && are_letters (drop (i + 1) xs)) is

pub letter_passes : (xs : List ℕ) (i : ℕ) → i < length xs → is_new_letter (get_or xs i 0) (take (length xs - (i + 1)) (drop (i + 1) xs)) ≡ true → are_letters (drop i xs) ≡ are_letters (drop (i + 1) xs)
letter_passes xs i h is = letter_first xs i true h is

pub letter_fails : (xs : List ℕ) (i : ℕ) → i < length xs → is_new_letter (get_or xs i 0) (take (length xs - (i + 1)) (drop (i + 1) xs)) ≡ false → are_letters (drop i xs) ≡ false
letter_fails xs i h is = letter_first xs i false h is

pub letters_pass : (xs : List ℕ) (i : ℕ) → length xs ≤ i → are_letters (drop i xs) ≡ true
unfolding are_letters
letters_pass xs i h = ap are_letters (none_left xs i h)

size_first : (e : ℕ) (xs rest : List ℕ) (i : ℕ) (o : Option ℕ) → i < length xs → o ≡ letter_size (get_or xs i 0) rest → encoding_among e (drop i xs) rest ≡ option_and_then (λ n. encoding_among (encoding_with (get_or xs i 0) rest e) (drop (i + 1) xs) (drop n rest)) o
unfolding encoding_among
size_first e xs rest i o h is =
    ap (λ ys. encoding_among e ys rest) (first_left xs i h)
    ∙ ap (option_and_then (λ n. encoding_among (encoding_with (get_or xs i 0) rest e) (drop (i + 1) xs) (drop n rest))) (sym is)

pub size_missing : (e : ℕ) (xs rest : List ℕ) (i : ℕ) → i < length xs → None ≡ letter_size (get_or xs i 0) rest → encoding_among e (drop i xs) rest ≡ None
size_missing e xs rest i h is = size_first e xs rest i None h is

pub size_found : (e f : ℕ) (xs rest : List ℕ) (i n : ℕ) → i < length xs → Some n ≡ letter_size (get_or xs i 0) rest → f ≡ encoding_with (get_or xs i 0) rest e → encoding_among e (drop i xs) rest ≡ encoding_among f (drop (i + 1) xs) (take (length rest - n) (drop n rest))
size_found e f xs rest i n h is next =
    size_first e xs rest i (Some n) h is
    ∙ ap (λ g. encoding_among g (drop (i + 1) xs) (drop n rest)) (sym next)
    ∙ ap (encoding_among f (drop (i + 1) xs)) (sym (all_behind rest n))

pub sizes_end : (e : ℕ) (xs rest : List ℕ) (i : ℕ) → length xs ≤ i → encoding_among e (drop i xs) rest ≡ Some e
unfolding encoding_among
sizes_end e xs rest i h = ap (λ ys. encoding_among e ys rest) (none_left xs i h)

-- the first NUL of some bytes
first_nul : (few : List ℕ) (i : ℕ) (t : Bool) → position_or_len (is_byte 0) few ≡ i → ltb i (length few) ≡ t → position (is_byte 0) few ≡ cond t (Some i) None
first_nul few i t at is =
    ap (λ k. cond (ltb k (length few)) (Some k) None) at ∙ ap (λ u. cond u (Some i) None) is

pub nul_is : (xs : List ℕ) (r : Option ℕ) → IsFirstByte (is_byte 0) xs r → r ≡ position (is_byte 0) xs
nul_is xs None h =
    sym (first_nul xs (length xs) false (found_none 0 xs h) (le-ltb (length xs) (length xs) (omega arith)))
nul_is xs (Some k) h =
    let within : k < length xs = omega (arith, h.0.high) in sym (first_nul xs k true (found_at 0 xs k h) (lt-ltb k (length xs) within))
