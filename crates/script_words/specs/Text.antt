-- The text of a word: `\xHH` is one byte, and the word has no other backslash.
use Rattle.std.specs.Prelude.{ℕ, zero, suc, ◌+◌, ◌*◌, ◌==◌, ◌&&◌, List, [], ◌∷◌, Option, None, Some, if◌then◌else◌}
use Rattle.std.specs.Char.{digit_value, is_digit}

-- the text, c in front
abbrev pub with_byte : ℕ → Option (List ℕ) → Option (List ℕ)
with_byte c None = None
with_byte c (Some text) = Some (c ∷ text)

-- the byte of `xHH` after a backslash, digits of either case
abbrev pub escape_of : List ℕ → Option ℕ
escape_of [] = None
escape_of (x ∷ []) = None
escape_of (x ∷ high ∷ []) = None
escape_of (x ∷ high ∷ low ∷ rest) =
    if x == 120 && is_digit high 16 && is_digit low 16 then Some (16 * digit_value high + digit_value low)
    else None

-- the text after an escape, if there is an escape
abbrev pub after_escape : Option ℕ → Option (List ℕ) → Option (List ℕ)
after_escape None text = None
after_escape (Some c) text = with_byte c text

-- the text of a word from which an escape has taken n bytes more
abbrev pub text_past : ℕ → List ℕ → Option (List ℕ)
text_past zero [] = Some []
text_past (suc n) [] = Some []
text_past zero (c ∷ cs) = if c == 92 then after_escape (escape_of cs) (text_past 3 cs) else with_byte c (text_past 0 cs)
text_past (suc n) (c ∷ cs) = text_past n cs

-- the text of a word
abbrev pub text_of : List ℕ → Option (List ℕ)
text_of word = text_past 0 word
