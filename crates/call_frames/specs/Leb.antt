-- LEB128 numbers (DWARF 5, 7.6): groups of seven bits, the least group first. Each byte but the last has its highest bit set.
use Rattle.std.specs.Prelude.{ℕ, ◌+◌, ◌-◌, ◌*◌, ◌%◌, ◌^◌, nat_lt, nat_le, if◌then◌else◌, Bool, List, [], ◌∷◌, length, take, drop, slice_index, Option, None, Some}
use Rattle.std.specs.Option.{option_and_then, option_map}
use Rattle.std.specs.List.{position}

-- a byte below 0x80 is the last
abbrev pub is_last : ℕ → Bool
is_last x = nat_lt x 128

-- The bytes of the number at the front, and those after it. It has at most ten bytes.
unfoldable pub split_leb : List ℕ → Option (List ℕ × List ℕ)
split_leb bytes = option_map (λ i. (take (i + 1) bytes, drop (i + 1) bytes)) (position is_last (take 10 bytes))

-- the number that the groups are
abbrev pub groups : List ℕ → ℕ
groups [] = 0
groups (x ∷ xs) = x % 128 + 128 * groups xs

-- ULEB128: the number, which is to be below 2^64
unfoldable pub unsigned : List ℕ → Option ℕ
unsigned text = if nat_lt (groups text) (2 ^ 64) then Some (groups text) else None

-- the highest bit of the last group is the sign
abbrev pub is_negative : List ℕ → Bool
is_negative text = nat_le 64 (slice_index text (length text - 1))

-- the distance of a negative number of n groups from 0: its groups are its two's complement in 7 * n bits
abbrev pub below_zero : List ℕ → ℕ
below_zero text = 2 ^ (7 * length text) - groups text

-- SLEB128: the number modulo 2^64. It is to be at least -2^63 and below 2^63.
unfoldable pub signed : List ℕ → Option ℕ
signed text =
    if is_negative text then (if nat_le (below_zero text) (2 ^ 63) then Some (2 ^ 64 - below_zero text) else None)
    else (if nat_lt (groups text) (2 ^ 63) then Some (groups text) else None)

-- the number at the front, and the bytes after it
abbrev pub with_behind : (List ℕ → Option ℕ) → (List ℕ × List ℕ) → Option (ℕ × List ℕ)
with_behind number parts = option_map (λ n. (n, parts.1)) (number parts.0)

unfoldable pub uleb : List ℕ → Option (ℕ × List ℕ)
uleb bytes = option_and_then (with_behind unsigned) (split_leb bytes)

unfoldable pub sleb : List ℕ → Option (ℕ × List ℕ)
sleb bytes = option_and_then (with_behind signed) (split_leb bytes)

-- as many bytes as a ULEB128 in front of them says, and those after them
abbrev pub split_sized : ℕ × List ℕ → Option (List ℕ × List ℕ)
split_sized n = if nat_le n.0 (length n.1) then Some (take n.0 n.1, drop n.0 n.1) else None

unfoldable pub sized : List ℕ → Option (List ℕ × List ℕ)
sized bytes = option_and_then split_sized (uleb bytes)
