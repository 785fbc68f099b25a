-- The number of a word: decimal, or hexadecimal after `0x`, and below 2 ^ 64.
use Rattle.std.specs.Prelude.{ℕ, ◌^◌, Bool, false, ◌==◌, ◌&&◌, nat_le, nat_lt, List, [], ◌∷◌, drop, Option, None, Some, if◌then◌else◌}
use Rattle.std.specs.List.{list_all}
use Rattle.std.specs.Char.{is_digit}
use Rattle.std.specs.Str.Parse.{digits_value}

-- every byte is a digit in the base, letters of either case
abbrev pub are_digits : ℕ → List ℕ → Bool
are_digits base bytes = list_all (λ c. is_digit c base) bytes

-- the number of one digit or more in a base. Zeros may lead, and only the number is bounded.
abbrev pub numeral_of : ℕ → List ℕ → Option ℕ
numeral_of base [] = None
numeral_of base (c ∷ cs) =
    if are_digits base (c ∷ cs) && nat_lt (digits_value base (c ∷ cs)) (2 ^ 64) then Some (digits_value base (c ∷ cs))
    else None

-- the bytes begin with `0x`
abbrev pub has_hex_prefix : List ℕ → Bool
has_hex_prefix [] = false
has_hex_prefix (a ∷ []) = false
has_hex_prefix (a ∷ b ∷ bytes) = a == 48 && b == 120

-- the number of a word
abbrev pub number_of : List ℕ → Option ℕ
number_of word = if has_hex_prefix word then numeral_of 16 (drop 2 word) else numeral_of 10 word

-- the number, if it lies from low to high
abbrev pub kept_within : ℕ → ℕ → Option ℕ → Option ℕ
kept_within low high None = None
kept_within low high (Some n) = if nat_le low n && nat_le n high then Some n else None

-- the number of a word, if it lies from low to high
abbrev pub number_within : ℕ → ℕ → List ℕ → Option ℕ
number_within low high word = kept_within low high (number_of word)
