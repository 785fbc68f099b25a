-- Encoded pointers (LSB Core, "DWARF Exception Header Encoding"). The low four bits of an encoding say how many bytes a pointer has and
-- whether they are signed; the bits above say to which address it is relative.
use Rattle.std.specs.Prelude.{ℕ, ◌+◌, ◌-◌, ◌*◌, ◌/◌, ◌%◌, ◌^◌, ◌==◌, ◌||◌, nat_le, if◌then◌else◌, Bool, List, length, drop, Option, None, Some}
use Rattle.std.specs.Option.{option_and_then}
use Rattle.elf_view.specs.Field.{field}

-- DW_EH_PE_absptr (0), udata8 (4), sdata8 (12): 8 bytes; udata4 (3), sdata4 (11): 4; udata2 (2), sdata2 (10): 2
abbrev pub width_by : ℕ → Option ℕ
width_by low =
    if low == 0 || low == 4 || low == 12 then Some 8
    else (if low == 3 || low == 11 then Some 4
    else (if low == 2 || low == 10 then Some 2
    else None))

unfoldable pub width_of : ℕ → Option ℕ
width_of encoding = width_by (encoding % 16)

-- DW_EH_PE_signed (8)
abbrev pub is_signed : ℕ → Bool
is_signed encoding = encoding / 8 % 2 == 1

-- DW_EH_PE_pcrel (0x10) alone: relative to the address of the pointer's first byte
abbrev pub is_relative : ℕ → Bool
is_relative encoding = encoding / 16 == 1

-- a signed number of w bytes, modulo 2^64
unfoldable pub extended : ℕ → ℕ → ℕ
extended w v = if nat_le (2 ^ (8 * w - 1)) v then v + (2 ^ 64 - 2 ^ (8 * w)) else v

-- the number that w bytes at the front are
unfoldable pub number_of : ℕ → ℕ → List ℕ → ℕ
number_of encoding w bytes = if is_signed encoding then extended w (field bytes 0 w) else field bytes 0 w

-- the target of a pointer whose first byte has address a, modulo 2^64
unfoldable pub target : ℕ → ℕ → ℕ → ℕ
target encoding a v = if is_relative encoding then (v + a) % 2 ^ 64 else v

-- the w bytes at the front as a number by f, if they are there, and the bytes after them
abbrev pub number_behind : (ℕ → ℕ) → List ℕ → ℕ → Option (ℕ × List ℕ)
number_behind f bytes w = if nat_le w (length bytes) then Some (f w, drop w bytes) else None

-- the pointer at the front, whose first byte has address a, and the bytes after it
unfoldable pub pointer : ℕ → ℕ → List ℕ → Option (ℕ × List ℕ)
pointer encoding a bytes = option_and_then (number_behind (λ w. target encoding a (number_of encoding w bytes)) bytes) (width_of encoding)

-- a number of that width, unsigned
unfoldable pub extent : ℕ → List ℕ → Option (ℕ × List ℕ)
extent encoding bytes = option_and_then (number_behind (λ w. field bytes 0 w) bytes) (width_of encoding)
