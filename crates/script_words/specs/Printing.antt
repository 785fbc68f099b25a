-- How replies print numbers and texts.
use Rattle.std.specs.Prelude.{ℕ, ◌/◌, ◌%◌, Bool, not, ◌==◌, ◌&&◌, nat_le, List, [], ◌∷◌, map, if◌then◌else◌}
use Rattle.std.specs.List.{flat_map}
use Rattle.std.specs.Char.{digit_char}
use Rattle.std.specs.Int.Digits.{digits_of}

-- the byte prints as itself: it is one of 0x21 to 0x7e, and no backslash
abbrev pub prints_itself : ℕ → Bool
prints_itself c = nat_le 33 c && nat_le c 126 && not (c == 92)

-- `\xHH` in lower case
abbrev pub escape : ℕ → List ℕ
escape c = 92 ∷ 120 ∷ digit_char (c / 16) ∷ digit_char (c % 16) ∷ []

-- how a text's byte prints
abbrev pub shown_byte : ℕ → List ℕ
shown_byte c = if prints_itself c then c ∷ [] else escape c

-- how a text prints: the empty text as `-`, and so the text `-` as `\x2d`
abbrev pub shown : List ℕ → List ℕ
shown [] = 45 ∷ []
shown (c ∷ []) = if c == 45 then escape c else shown_byte c
shown (c ∷ d ∷ cs) = flat_map shown_byte (c ∷ d ∷ cs)

-- the digits of a number in base 16, in lower case, with no leading zero
abbrev pub hex_digits : ℕ → List ℕ
hex_digits n = if n == 0 then 48 ∷ [] else map digit_char (digits_of 16 n)

-- how an address or a mask prints: `0x` and its digits
abbrev pub hexadecimal : ℕ → List ℕ
hexadecimal n = 48 ∷ 120 ∷ hex_digits n
