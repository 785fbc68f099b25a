-- What is printed in place of a hidden character, and that nothing hidden is printed.
use Rattle.std.proofs.Common.{◌≡◌, ℕ, ◌/◌, ◌%◌, ◌<◌, ◌≤◌, ◌&&◌, ◌||◌, Bool, true, false, List, [], ◌∷◌, ◌++◌, refl, sym, ap, subst, ◌∙◌, arith, if◌then◌else◌, Some}
use Rattle.std.proofs.Math.Utf8.{scalars, scalar}
use Rattle.std.specs.Char.{digit_char, encode_utf8, IsScalar}
use Rattle.std.specs.List.{list_any, flat_map}
use Rattle.std.specs.Str.{IsAscii, IsUtf8, chars}
use Rattle.std.proofs.lemmas.Bool.Decides.{nat_tests}
use Rattle.std.proofs.lemmas.List.{append_assoc, append-nil}
use Rattle.std.proofs.lemmas.List.Folds.{list_any-append}
use Rattle.std.proofs.lemmas.Str.{chars-nil, chars-append, chars-IsAscii, IsUtf8-from_ascii, IsUtf8-encode, scalars-chars, chars_past_char}
use Rattle.std.proofs.lemmas.Str.Ascii.{IsAscii-nil, IsAscii-cons}
use Rattle.serde_json.specs.Data.{Data, depth}
use Rattle.serde_json.specs.Read.{max_depth}
use Rattle.serde_json.specs.Written.{compact_text, has_float}
use Rattle.script_words.specs.Hex.{hex_of}
use Rattle.case_tables.specs.Hidden.{IsPrinted, Prints, is_hidden, code_escape, printed_char, printed_json}

-- the last hidden character is the byte order mark
pub hidden_below : (c : ℕ) → is_hidden c ≡ true → c < 65536
unfolding is_hidden
hidden_below c is = grind (arith, nat_tests)

not_hidden : (c : ℕ) → c < 127 → is_hidden c ≡ false
unfolding is_hidden
not_hidden c below = grind (arith, nat_tests)

digit_below : (d : ℕ) → d < 16 → digit_char d < 127
digit_below d below = grind (arith, nat_tests)

-- the digits of an escape, each a letter of ASCII that is not hidden
high : (c : ℕ) → c < 65536 → digit_char (c / 256 / 16) < 127
high c below = digit_below (c / 256 / 16) (omega (arith, below))

second : (c : ℕ) → digit_char (c / 256 % 16) < 127
second c = digit_below (c / 256 % 16) (omega arith)

third : (c : ℕ) → digit_char (c % 256 / 16) < 127
third c = digit_below (c % 256 / 16) (omega arith)

low : (c : ℕ) → digit_char (c % 256 % 16) < 127
low c = digit_below (c % 256 % 16) (omega arith)

letter : (b : ℕ) (bs : List ℕ) → b < 127 → IsAscii bs → IsAscii (b ∷ bs)
letter b bs below more = IsAscii-cons b bs (omega (arith, below)) more

ascii_digits : (c : ℕ) → c < 65536 → IsAscii (hex_of (c / 256 ∷ c % 256 ∷ []))
ascii_digits c below =
    let d = digit_char (c % 256 % 16) in
    let b = digit_char (c % 256 / 16) in
    let a = digit_char (c / 256 % 16) in
    letter (digit_char (c / 256 / 16)) (a ∷ b ∷ d ∷ []) (high c below) (letter a (b ∷ d ∷ []) (second c) (letter b (d ∷ []) (third c) (letter d [] (low c) IsAscii-nil)))

pub ascii_letters : (c code : ℕ) (letters : List ℕ) → is_hidden c ≡ true → code ≡ c → letters ≡ hex_of (code / 256 ∷ code % 256 ∷ []) → IsAscii letters
ascii_letters c code letters is same digits =
    subst (λ (l : List ℕ). IsAscii l) (sym (digits ∙ ap (λ (n : ℕ). hex_of (n / 256 ∷ n % 256 ∷ [])) same)) (ascii_digits c (hidden_below c is))

-- what is printed in place of a hidden character
escaped : (c : ℕ) → is_hidden c ≡ true → printed_char c ≡ code_escape c
escaped c is = ap (λ (b : Bool). if b then code_escape c else encode_utf8 c) is

-- a backslash, `u` and the digits are what is printed of a hidden character
pub escape_added : (c code : ℕ) (old pushed new letters : List ℕ) → is_hidden c ≡ true → code ≡ c → pushed ≡ old ++ 92 ∷ 117 ∷ [] → new ≡ pushed ++ letters
    → letters ≡ hex_of (code / 256 ∷ code % 256 ∷ []) → new ≡ old ++ printed_char c
escape_added c code old pushed new letters is same first then_new digits =
    then_new ∙ ap (λ (l : List ℕ). l ++ letters) first ∙ append_assoc old (92 ∷ 117 ∷ []) letters
    ∙ ap (λ (l : List ℕ). old ++ 92 ∷ 117 ∷ l) (digits ∙ ap (λ (n : ℕ). hex_of (n / 256 ∷ n % 256 ∷ [])) same)
    ∙ ap (λ (l : List ℕ). old ++ l) (sym (escaped c is))

-- neither of two
neither : (a b : Bool) → a ≡ false → b ≡ false → (a || b) ≡ false
neither a b one two = ap (λ (x : Bool). x || b) one ∙ two

shown_escape : (c : ℕ) → c < 65536 → list_any is_hidden (code_escape c) ≡ false
shown_escape c below =
    neither _ _ (not_hidden 92 (omega arith)) (neither _ _ (not_hidden 117 (omega arith))
    (neither _ _ (not_hidden _ (high c below)) (neither _ _ (not_hidden _ (second c))
    (neither _ _ (not_hidden _ (third c)) (neither _ _ (not_hidden _ (low c)) refl)))))

-- what is printed of a character hides nothing
printed_one : (c : ℕ) → IsScalar c → IsUtf8 (printed_char c) × (list_any is_hidden (chars (printed_char c)) ≡ false)
printed_one c is = by_answer (is_hidden c) refl
  where
    by_answer : (b : Bool) → is_hidden c ≡ b → IsUtf8 (if b then code_escape c else encode_utf8 c) × (list_any is_hidden (chars (if b then code_escape c else encode_utf8 c)) ≡ false)
    by_answer true e =
        let below = hidden_below c e in
        let ascii : IsAscii (code_escape c) = letter 92 (117 ∷ hex_of (c / 256 ∷ c % 256 ∷ [])) (omega arith) (letter 117 (hex_of (c / 256 ∷ c % 256 ∷ [])) (omega arith) (ascii_digits c below)) in
        (IsUtf8-from_ascii (code_escape c) ascii, ap (list_any is_hidden) (chars-IsAscii (code_escape c) ascii) ∙ shown_escape c below)
    by_answer false e =
        let utf8 = IsUtf8-encode c is in
        (utf8, ap (list_any is_hidden) (chars_past_char (encode_utf8 c) [] c utf8 (sym (append-nil (encode_utf8 c))) ∙ ap (λ (cs : List ℕ). c ∷ cs) chars-nil) ∙ neither _ _ e refl)

both : (a b : Bool) → a && b ≡ true → (a ≡ true) × (b ≡ true)
both true b e = (refl, e)
both false b e = absurd (cc)

printed_all : (cs : List ℕ) → scalars cs ≡ true → list_any is_hidden (chars (flat_map printed_char cs)) ≡ false
printed_all [] are = ap (list_any is_hidden) chars-nil
printed_all (c ∷ cs) are =
    let parts = both (scalar c) (scalars cs) are in
    let one = printed_one c parts.0 in
    ap (list_any is_hidden) (chars-append (printed_char c) (flat_map printed_char cs) one.0)
    ∙ list_any-append is_hidden (chars (printed_char c)) (chars (flat_map printed_char cs))
    ∙ neither _ _ one.1 (printed_all cs parts.1)

pub nothing_hidden : (text : List ℕ) → IsUtf8 text → list_any is_hidden (chars (printed_json text)) ≡ false
unfolding printed_json
nothing_hidden text is = printed_all (chars text) (scalars-chars text is)

-- what is printed of a value that nests no deeper than a reader goes
pub prints : (d e : Data) (printed : List ℕ) → depth d ≤ max_depth → d ≡ e → IsPrinted d printed → Prints e printed
prints d e printed deep same p = record { text = p.text; reads = p.reads deep ∙ ap Some same; escaped = p.escaped }

-- what is printed of a value without floats
pub printed_exactly : (d e : Data) (printed : List ℕ) → has_float d ≡ false → d ≡ e → IsPrinted d printed → printed ≡ printed_json (compact_text e)
printed_exactly d e printed none same p = p.escaped ∙ ap printed_json (p.exact none ∙ ap compact_text same)
