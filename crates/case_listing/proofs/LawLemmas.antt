-- What was printed is read by people.
use Rattle.std.proofs.Common.{◌≡◌, ℕ, ◌*◌, ◌/◌, ◌%◌, ◌+◌, ◌<◌, ◌≤◌, Bool, true, false, not, ◌&&◌, cond, ◌==◌, nat_le, List, [], ◌∷◌, ◌++◌, length, None, Some, refl, sym, ap, ◌∙◌, arith, ⊎_elim, append-nil}
use Rattle.std.specs.Prelude.{All}
use Rattle.std.specs.List.{AllByRecursion, flat_map}
use Rattle.std.proofs.lemmas.List.Elements.{recursion_from_All}
use Rattle.std.proofs.lemmas.Bool.{cases_Bool, lt-ltb, false≢true}
use Rattle.std.proofs.lemmas.Str.{digit_value-digit_char}
use Rattle.std.specs.Char.{digit_char, digit_value, is_digit}
use Rattle.script_words.specs.Text.{escape_of}
use Rattle.script_words.specs.Printing.{prints_itself, escape, shown_byte, shown}
use Rattle.script_words.specs.Words.{is_plain_byte}
use Rattle.case_listing.specs.PlainText.{if_plain, plain_escape, after_backslash, plain_past, plain_of}

-- a byte that is a space or prints
abbrev pub IsPlain : ℕ → Type 0
IsPlain c = (32 ≤ c) × (c ≤ 126)

-- a byte that prints itself is no backslash
no_backslash : (a b : Bool) → a && not b ≡ true → b ≡ false
no_backslash true true h = cc
no_backslash true false h = refl
no_backslash false b h = absurd (false≢true h)

is_plain : (c : ℕ) → IsPlain c → is_plain_byte c ≡ true
is_plain c plain = let low = plain.0 in let high = plain.1 in grind arith

-- an escape is read as its byte
escape_is : (c : ℕ) (rest : List ℕ) → IsPlain c → plain_past 0 (escape c ++ rest) ≡ c ∷ plain_past 0 rest
escape_is c rest plain =
    let most : c ≤ 126 = plain.1 in
    let high : c / 16 < 16 = omega arith in
    let low : c % 16 < 16 = omega arith in
    let high_value = digit_value-digit_char (c / 16) (omega arith) in
    let low_value = digit_value-digit_char (c % 16) (omega arith) in
    let high_digit : is_digit (digit_char (c / 16)) 16 ≡ true = lt-ltb _ 16 (omega (arith, high_value)) in
    let low_digit : is_digit (digit_char (c % 16)) 16 ≡ true = lt-ltb _ 16 (omega (arith, low_value)) in
    let value : 16 * digit_value (digit_char (c / 16)) + digit_value (digit_char (c % 16)) ≡ c = omega (arith, high_value, low_value) in
    let found : escape_of (120 ∷ digit_char (c / 16) ∷ digit_char (c % 16) ∷ rest) ≡ Some c =
    ap (λ b. cond (b && is_digit (digit_char (c % 16)) 16) (Some (16 * digit_value (digit_char (c / 16)) + digit_value (digit_char (c % 16)))) None) high_digit
    ∙ ap (λ b. cond b (Some (16 * digit_value (digit_char (c / 16)) + digit_value (digit_char (c % 16)))) None) low_digit
    ∙ ap Some value in
    let one : plain_escape (120 ∷ digit_char (c / 16) ∷ digit_char (c % 16) ∷ rest) ≡ Some c =
    ap if_plain found ∙ ap (λ b. cond b (Some c) None) (is_plain c plain) in
    ap (λ e. after_backslash e (plain_past 0 rest) (plain_past 0 (120 ∷ digit_char (c / 16) ∷ digit_char (c % 16) ∷ rest))) one

plain_past-shown_byte : (c : ℕ) (rest : List ℕ) → IsPlain c → plain_past 0 (shown_byte c ++ rest) ≡ c ∷ plain_past 0 rest
plain_past-shown_byte c rest plain =
    ⊎_elim
    (λ itself.
    let other : (c == 92) ≡ false = no_backslash (nat_le 33 c && nat_le c 126) (c == 92) itself in
    ap (λ b. plain_past 0 (cond b (c ∷ []) (escape c) ++ rest)) itself
    ∙ ap (λ b. cond b (after_backslash (plain_escape rest) (plain_past 3 rest) (plain_past 0 rest)) (c ∷ plain_past 0 rest)) other)
    (λ escaped. ap (λ b. plain_past 0 (cond b (c ∷ []) (escape c) ++ rest)) escaped ∙ escape_is c rest plain)
    (cases_Bool (prints_itself c))

plain_of-each : (text : List ℕ) → AllByRecursion IsPlain text → plain_past 0 (flat_map shown_byte text) ≡ text
plain_of-each [] plain = refl
plain_of-each (c ∷ cs) plain = plain_past-shown_byte c (flat_map shown_byte cs) plain.0 ∙ ap (λ (l : List ℕ). c ∷ l) (plain_of-each cs plain.1)

plain_of-one : (c : ℕ) → IsPlain c → plain_of (shown (c ∷ [])) ≡ c ∷ []
plain_of-one c plain =
    ⊎_elim
    (λ minus. ap (λ b. plain_of (cond b (escape c) (shown_byte c))) minus ∙ sym (ap (plain_past 0) (append-nil (escape c))) ∙ escape_is c [] plain)
    (λ other. ap (λ b. plain_of (cond b (escape c) (shown_byte c))) other ∙ sym (ap (plain_past 0) (append-nil (shown_byte c))) ∙ plain_past-shown_byte c [] plain)
    (cases_Bool (c == 45))

plain_of-shown : (text : List ℕ) → AllByRecursion IsPlain text → 0 < length text → plain_of (shown text) ≡ text
plain_of-shown [] plain some = absurd (omega arith)
plain_of-shown (c ∷ []) plain some = plain_of-one c plain.0
plain_of-shown (c ∷ d ∷ cs) plain some = plain_of-each (c ∷ d ∷ cs) plain

pub read_by_people : (text : List ℕ) → All IsPlain text → 0 < length text → plain_of (shown text) ≡ text
read_by_people text plain some = plain_of-shown text (recursion_from_All IsPlain text plain) some
