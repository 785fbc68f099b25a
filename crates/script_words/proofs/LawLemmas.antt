-- What is printed is read again.
use Rattle.std.proofs.Common.{◌≡◌, ℕ, ◌*◌, ◌/◌, ◌%◌, ◌^◌, ◌+◌, ◌<◌, Bool, true, false, not, ◌&&◌, cond, ◌==◌, nat_lt, nat_le, List, [], ◌∷◌, ◌++◌, length, map, decimal, Option, None, Some, refl, sym, ap, ◌∙◌, arith, ⊎_elim, lit≤, eqb-true, append-nil, zero, suc}
use Rattle.std.specs.Prelude.{All}
use Rattle.std.specs.List.{AllByRecursion, flat_map}
use Rattle.std.proofs.lemmas.List.Elements.{recursion_from_All}
use Rattle.std.proofs.lemmas.Bool.{cases_Bool, lt-ltb, false≢true}
use Rattle.std.proofs.lemmas.Str.{digit_value-digit_char}
use Rattle.std.proofs.lemmas.Fmt.{decimal_is_IsNumeral}
use Rattle.std.proofs.lemmas.Int.Digits.{digits_value_is, all_below_base_digits_of, number_digits_of, length-digits_of_step}
use Rattle.std.specs.Char.{digit_char, digit_value, is_digit}
use Rattle.std.specs.Int.Digits.{digits_of, AllBelowBase, number_from_digits}
use Rattle.std.specs.Str.Parse.{AllDigits, digits_value}
use Rattle.script_words.specs.Number.{are_digits, numeral_of, has_hex_prefix, number_of}
use Rattle.script_words.specs.Hex.{hex_of, bytes_of_hex}
use Rattle.script_words.specs.Text.{with_byte, escape_of, after_escape, text_past, text_of}
use Rattle.script_words.specs.Printing.{prints_itself, escape, shown_byte, shown, hexadecimal}

-- the tests of digits, as one test
are_digits-from_AllDigits : (base : ℕ) (ds : List ℕ) → AllDigits base ds → are_digits base ds ≡ true
are_digits-from_AllDigits base [] digits = refl
are_digits-from_AllDigits base (c ∷ cs) digits = rw (lt-ltb (digit_value c) base digits.0) (are_digits-from_AllDigits base cs digits.1)

-- digits that mean a number of 64 bits
numeral_of-known : (base n : ℕ) (ds : List ℕ) → 0 < length ds → AllDigits base ds → digits_value base ds ≡ n → n < 2 ^ 64 → numeral_of base ds ≡ Some n
numeral_of-known base n [] some digits value small = absurd (omega arith)
numeral_of-known base n (c ∷ cs) some digits value small =
    ap (λ b. cond (b && nat_lt (digits_value base (c ∷ cs)) (2 ^ 64)) (Some (digits_value base (c ∷ cs))) None) (are_digits-from_AllDigits base (c ∷ cs) digits)
    ∙ ap (λ v. cond (nat_lt v (2 ^ 64)) (Some v) None) value
    ∙ ap (λ b. cond b (Some n) None) (lt-ltb n (2 ^ 64) small)

-- decimal digits have no `x` among them
no_hex_prefix : (ds : List ℕ) → AllDigits 10 ds → has_hex_prefix ds ≡ false
no_hex_prefix [] digits = refl
no_hex_prefix (a ∷ []) digits = refl
no_hex_prefix (a ∷ b ∷ ds) digits =
    ⊎_elim
    (λ is. let e : b ≡ 120 = eqb-true b 120 is in let large : 33 < 10 = rw e at digits.1.0 in absurd (omega arith))
    (λ other. ap (λ t. (a == 48) && t) other ∙ and_false (a == 48))
    (cases_Bool (b == 120))
  where
    and_false : (b : Bool) → (b && false) ≡ false
    and_false true = refl
    and_false false = refl

pub number_of-decimal : (n : ℕ) → n < 2 ^ 64 → number_of (decimal n) ≡ Some n
number_of-decimal n small =
    let numeral = decimal_is_IsNumeral n small in
    rw (no_hex_prefix (decimal n) numeral.0.1) (numeral_of-known 10 n (decimal n) numeral.0.0 numeral.0.1 numeral.1 small)

-- hexadecimal digits are digits, of the same values
digits_of_chars : (ds : List ℕ) → AllBelowBase 16 ds → AllDigits 16 (map digit_char ds) × (map digit_value (map digit_char ds) ≡ ds)
digits_of_chars [] below = (tt, refl)
digits_of_chars (d ∷ ds) below =
    let value = digit_value-digit_char d (omega (arith, below.0)) in
    let rest = digits_of_chars ds below.1 in
    ((omega (arith, value, below.0), rest.0), ap (λ v. v ∷ map digit_value (map digit_char ds)) value ∙ ap (λ vs. d ∷ vs) rest.1)

length-map : (f : ℕ → ℕ) (xs : List ℕ) → length (map f xs) ≡ length xs
length-map f [] = refl
length-map f (x ∷ xs) = ap (λ n. suc n) (length-map f xs)

numeral_of-hex_digits : (n : ℕ) → n < 2 ^ 64 → 0 < n → numeral_of 16 (map digit_char (digits_of 16 n)) ≡ Some n
numeral_of-hex_digits n small some =
    let ds : List ℕ = digits_of 16 n in
    let chars = digits_of_chars ds (all_below_base_digits_of 16 n (lit≤ tt)) in
    numeral_of-known 16 n (map digit_char ds)
    (omega (arith, length-map digit_char ds, length-digits_of_step 16 n (lit≤ tt) some))
    chars.0
    (digits_value_is 16 (map digit_char ds) ∙ ap (number_from_digits 16) chars.1 ∙ number_digits_of 16 n (lit≤ tt))
    small

pub number_of-hexadecimal : (n : ℕ) → n < 2 ^ 64 → number_of (hexadecimal n) ≡ Some n
number_of-hexadecimal zero small = refl
number_of-hexadecimal (suc n) small =
    ⊎_elim
    (λ is. let e : suc n ≡ 0 = eqb-true (suc n) 0 is in absurd (omega arith))
    (λ other. ap (λ b. numeral_of 16 (cond b (48 ∷ []) (map digit_char (digits_of 16 (suc n))))) other ∙ numeral_of-hex_digits (suc n) small (omega arith))
    (cases_Bool (suc n == 0))

-- a byte that prints itself is no backslash
no_backslash : (a b : Bool) → a && not b ≡ true → b ≡ false
no_backslash true true h = cc
no_backslash true false h = refl
no_backslash false b h = absurd (false≢true h)

-- the byte of an escape
escape_is : (c : ℕ) (rest : List ℕ) → c < 256 → text_past 0 (escape c ++ rest) ≡ with_byte c (text_past 0 rest)
escape_is c rest byte =
    let high : c / 16 < 16 = omega arith in
    let low : c % 16 < 16 = omega arith in
    let high_value = digit_value-digit_char (c / 16) (omega arith) in
    let low_value = digit_value-digit_char (c % 16) (omega arith) in
    let high_digit : is_digit (digit_char (c / 16)) 16 ≡ true = lt-ltb _ 16 (omega (arith, high_value)) in
    let low_digit : is_digit (digit_char (c % 16)) 16 ≡ true = lt-ltb _ 16 (omega (arith, low_value)) in
    let value : 16 * digit_value (digit_char (c / 16)) + digit_value (digit_char (c % 16)) ≡ c = omega (arith, high_value, low_value) in
    let found : escape_of (120 ∷ digit_char (c / 16) ∷ digit_char (c % 16) ∷ rest) ≡ Some c =
    ap (λ b. cond (b && is_digit (digit_char (c % 16)) 16) (Some (16 * digit_value (digit_char (c / 16)) + digit_value (digit_char (c % 16)))) None) high_digit
    ∙ ap (λ b. cond b (Some (16 * digit_value (digit_char (c / 16)) + digit_value (digit_char (c % 16)))) None) low_digit
    ∙ ap Some value in
    ap (λ e. after_escape e (text_past 0 rest)) found

text_past-shown_byte : (c : ℕ) (rest : List ℕ) → c < 256 → text_past 0 (shown_byte c ++ rest) ≡ with_byte c (text_past 0 rest)
text_past-shown_byte c rest byte =
    ⊎_elim
    (λ itself.
    let plain : (c == 92) ≡ false = no_backslash (nat_le 33 c && nat_le c 126) (c == 92) itself in
    ap (λ b. text_past 0 (cond b (c ∷ []) (escape c) ++ rest)) itself
    ∙ ap (λ b. cond b (after_escape (escape_of rest) (text_past 3 rest)) (with_byte c (text_past 0 rest))) plain)
    (λ escaped. ap (λ b. text_past 0 (cond b (c ∷ []) (escape c) ++ rest)) escaped ∙ escape_is c rest byte)
    (cases_Bool (prints_itself c))

text_of-each : (text : List ℕ) → AllByRecursion (λ c. c < 256) text → text_past 0 (flat_map shown_byte text) ≡ Some text
text_of-each [] bytes = refl
text_of-each (c ∷ cs) bytes =
    text_past-shown_byte c (flat_map shown_byte cs) bytes.0 ∙ ap (with_byte c) (text_of-each cs bytes.1)

text_of-one : (c : ℕ) → c < 256 → text_of (shown (c ∷ [])) ≡ Some (c ∷ [])
text_of-one c byte =
    ⊎_elim
    (λ minus. ap (λ b. text_of (cond b (escape c) (shown_byte c))) minus ∙ sym (ap (text_past 0) (append-nil (escape c))) ∙ escape_is c [] byte)
    (λ other. ap (λ b. text_of (cond b (escape c) (shown_byte c))) other ∙ sym (ap (text_past 0) (append-nil (shown_byte c))) ∙ text_past-shown_byte c [] byte)
    (cases_Bool (c == 45))

text_of-shown : (text : List ℕ) → AllByRecursion (λ c. c < 256) text → 0 < length text → text_of (shown text) ≡ Some text
text_of-shown [] bytes some = absurd (omega arith)
text_of-shown (c ∷ []) bytes some = text_of-one c bytes.0
text_of-shown (c ∷ d ∷ cs) bytes some = text_of-each (c ∷ d ∷ cs) bytes

pub printed_text : (text : List ℕ) → All (λ c. c < 256) text → 0 < length text → text_of (shown text) ≡ Some text
printed_text text bytes some = text_of-shown text (recursion_from_All (λ c. c < 256) text bytes) some

-- the bytes of pairs of digits
bytes_of_hex-each : (bytes : List ℕ) → AllByRecursion (λ c. c < 256) bytes → bytes_of_hex (hex_of bytes) ≡ Some bytes
bytes_of_hex-each [] each = refl
bytes_of_hex-each (c ∷ cs) each =
    let byte : c < 256 = each.0 in
    let high_value = digit_value-digit_char (c / 16) (omega arith) in
    let low_value = digit_value-digit_char (c % 16) (omega arith) in
    let high_digit : is_digit (digit_char (c / 16)) 16 ≡ true = lt-ltb _ 16 (omega (arith, high_value)) in
    let low_digit : is_digit (digit_char (c % 16)) 16 ≡ true = lt-ltb _ 16 (omega (arith, low_value)) in
    let value : 16 * digit_value (digit_char (c / 16)) + digit_value (digit_char (c % 16)) ≡ c = omega (arith, high_value, low_value) in
    let rest : Option (List ℕ) = bytes_of_hex (hex_of cs) in
    ap (λ b. cond (b && is_digit (digit_char (c % 16)) 16) (with_byte (16 * digit_value (digit_char (c / 16)) + digit_value (digit_char (c % 16))) rest) None) high_digit
    ∙ ap (λ b. cond b (with_byte (16 * digit_value (digit_char (c / 16)) + digit_value (digit_char (c % 16))) rest) None) low_digit
    ∙ ap (λ v. with_byte v rest) value
    ∙ ap (with_byte c) (bytes_of_hex-each cs each.1)

pub printed_bytes : (bytes : List ℕ) → All (λ c. c < 256) bytes → bytes_of_hex (hex_of bytes) ≡ Some bytes
printed_bytes bytes each = bytes_of_hex-each bytes (recursion_from_All (λ c. c < 256) bytes each)
