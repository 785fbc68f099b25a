-- Laws of numbers in bytes.
use Rattle.std.proofs.Common.{◌≡◌, ℕ, zero, suc, ◌+◌, ◌*◌, ◌^◌, ◌<◌, ◌≤◌, List, [], ◌∷◌, ◌++◌, length, drop, refl, sym, ap, ◌∙◌, arith}
use Rattle.std.proofs.lemmas.List.{get_or-drop, append-nil}
use Rattle.std.specs.Int.{byte_at, bytes_low_first}
use Rattle.byteorder.specs.Endian.{little_from}
use Rattle.byteorder.specs.Numbers.{little_number-reads_back, little_from-cons, little_from-take, little_from-lt, length-bytes_low_first}
use Rattle.disk_model.specs.Places.{AreBytes, part}
use Rattle.disk_model.specs.PartLaws.{part_length, part_bytes}
use Rattle.journal_layout.specs.Layout.{number_bytes, field}

-- how many bytes a number has, and that they are bytes
pub length-number_bytes : (w n : ℕ) → length (number_bytes w n) ≡ w
unfolding number_bytes
length-number_bytes w n = length-bytes_low_first 0 w n

byte_at_lt : (k n : ℕ) → byte_at k n < 256
byte_at_lt zero n = omega arith
byte_at_lt (suc k) n = omega arith

low_bytes_are : (i w n : ℕ) → AreBytes (bytes_low_first i w n)
low_bytes_are i zero n k = omega arith
low_bytes_are i (suc w) n zero = byte_at_lt i n
low_bytes_are i (suc w) n (suc k) = low_bytes_are (suc i) w n k

pub number_bytes_are : (w n : ℕ) → AreBytes (number_bytes w n)
unfolding number_bytes
number_bytes_are w n = low_bytes_are 0 w n

-- a number that is written is read again
pub number_read : (w n : ℕ) (rest : List ℕ) → n < 256 ^ w → field (number_bytes w n ++ rest) 0 w ≡ n
unfolding number_bytes
number_read w n rest small = little_number-reads_back w n rest small

-- a field of the bytes from some place on
pub field-drop : (b : List ℕ) (p i w : ℕ) → field (drop p b) i w ≡ field b (p + i) w
field-drop b p i zero = refl
field-drop b p i (suc w) =
    let e : p + suc i ≡ suc (p + i) = omega arith in
    let rest : field (drop p b) (suc i) w ≡ field b (suc (p + i)) w = field-drop b p (suc i) w ∙ ap (λ (k : ℕ). little_from k w b) e in
    rw (rest, get_or-drop p b i 0) refl

pub field_part : (b : List ℕ) (p w : ℕ) → field (part b p w) 0 w ≡ field b p w
unfolding part
field_part b p w =
    let e : p + 0 ≡ p = omega arith in
    little_from-take 0 w w (drop p b) (omega arith) ∙ field-drop b p 0 w ∙ ap (λ (k : ℕ). field b k w) e

-- bytes that are the same number are the same
pub same_number : (w : ℕ) (xs ys : List ℕ) → AreBytes xs → AreBytes ys → length xs ≡ w → length ys ≡ w → field xs 0 w ≡ field ys 0 w → xs ≡ ys
same_number zero [] [] a b l m e = refl
same_number zero [] (y ∷ ys) a b l m e = absurd (omega (arith, m))
same_number zero (x ∷ xs) ys a b l m e = absurd (omega (arith, l))
same_number (suc w) [] ys a b l m e = absurd (omega (arith, l))
same_number (suc w) (x ∷ xs) [] a b l m e = absurd (omega (arith, m))
same_number (suc w) (x ∷ xs) (y ∷ ys) a b l m e =
    let low : x < 256 = a 0 in
    let high : y < 256 = b 0 in
    let whole : x + 256 * little_from 1 w (x ∷ xs) ≡ y + 256 * little_from 1 w (y ∷ ys) = e in
    let first : x ≡ y = omega arith in
    let behind : little_from 1 w (x ∷ xs) ≡ little_from 1 w (y ∷ ys) = omega arith in
    let rest : xs ≡ ys =
    same_number w xs ys (λ k. a (suc k)) (λ k. b (suc k)) (omega (arith, l)) (omega (arith, m))
    (sym (little_from-cons 0 w x xs) ∙ behind ∙ little_from-cons 0 w y ys) in
    ap (λ (z : ℕ). z ∷ xs) first ∙ ap (λ (zs : List ℕ). y ∷ zs) rest

-- a number that is read was written so
pub field_spelled : (w p : ℕ) (b : List ℕ) → AreBytes b → p + w ≤ length b → number_bytes w (field b p w) ≡ part b p w
field_spelled w p b are within =
    let n = field b p w in
    let small : n < 256 ^ w = little_from-lt p w b are in
    same_number w (number_bytes w n) (part b p w) (number_bytes_are w n) (part_bytes b p w are) (length-number_bytes w n) (part_length b p w within)
    (sym (ap (λ (l : List ℕ). field l 0 w) (append-nil (number_bytes w n))) ∙ number_read w n [] small ∙ sym (field_part b p w))

pub field_small : (b : List ℕ) (p w : ℕ) → AreBytes b → field b p w < 256 ^ w
field_small b p w are = little_from-lt p w b are
