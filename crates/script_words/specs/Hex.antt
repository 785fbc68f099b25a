-- Bytes as pairs of hexadecimal digits, with nothing between them.
use Rattle.std.specs.Prelude.{ℕ, ◌+◌, ◌*◌, ◌/◌, ◌%◌, ◌&&◌, nat_le, List, [], ◌∷◌, length, Option, None, Some, if◌then◌else◌}
use Rattle.std.specs.List.{flat_map}
use Rattle.std.specs.Char.{digit_char, digit_value, is_digit}
use Rattle.script_words.specs.Text.{with_byte}

-- a byte's two digits, in lower case
abbrev pub hex_pair : ℕ → List ℕ
hex_pair c = digit_char (c / 16) ∷ digit_char (c % 16) ∷ []

-- bytes as their digits
abbrev pub hex_of : List ℕ → List ℕ
hex_of bytes = flat_map hex_pair bytes

-- the bytes of digits of either case, an even number of them and nothing else
abbrev pub bytes_of_hex : List ℕ → Option (List ℕ)
bytes_of_hex [] = Some []
bytes_of_hex (high ∷ []) = None
bytes_of_hex (high ∷ low ∷ digits) =
    if is_digit high 16 && is_digit low 16 then with_byte (16 * digit_value high + digit_value low) (bytes_of_hex digits)
    else None

-- the bytes to search a memory for: 1 to 64 bytes
abbrev pub needle_of : List ℕ → Option (List ℕ)
needle_of word = if nat_le 2 (length word) && nat_le (length word) 128 then bytes_of_hex word else None
