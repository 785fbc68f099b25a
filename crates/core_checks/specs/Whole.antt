-- How many bytes a core file has, if it is whole: the end of the last of its segments (System V gABI, "ELF Header", "Program Header").
use Rattle.std.specs.Prelude.{ℕ, zero, suc, ◌+◌, ◌*◌, ◌==◌, ◌&&◌, not, nat_eq, nat_le, nat_lt, max, min, if◌then◌else◌, List, [], ◌∷◌, length, slice_index, Option, None, Some}
use Rattle.std.specs.List.{starts_with}
use Rattle.elf_view.specs.Field.{field}
use Rattle.core_checks.specs.declared.whole.Class.{Class}
use Rattle.core_checks.specs.declared.whole.Class.TheVariants.{Narrow, Wide}

-- the size of a program header (e_phentsize)
abbrev pub header_size : Class → ℕ
header_size Narrow = 32
header_size Wide = 56

-- EI_CLASS, of a file of so many bytes: the header is whole
abbrev pub class_by : ℕ → ℕ → Option Class
class_by class size = if class == 1 then Some Narrow else if class == 2 && nat_le 64 size then Some Wide else None

-- a little-endian (EI_DATA 1) ELF file of type ET_CORE (4), whose header is whole
abbrev pub class_of : List ℕ → Option Class
class_of b =
    if nat_lt (length b) 52 then None
    else if not (starts_with nat_eq b (127 ∷ 69 ∷ 76 ∷ 70 ∷ [])) then None
    else if not (slice_index b 5 == 1) then None
    else if not (field b 16 2 == 4) then None
    else class_by (slice_index b 4) (length b)

-- p_offset and p_filesz together, or the highest number of 64 bits
abbrev pub segment_end : List ℕ → Class → ℕ → ℕ
segment_end b Narrow at = field b (at + 4) 4 + field b (at + 16) 4
segment_end b Wide at = min (field b (at + 8) 8 + field b (at + 32) 8) 18446744073709551615

-- the end of a segment whose header is there, if it is a PT_LOAD (1)
abbrev pub load_end : List ℕ → Class → ℕ → ℕ
load_end b class at = if field b at 4 == 1 then segment_end b class at else 0

-- the highest end of n segments whose headers stand from a place on; 0 if none is a PT_LOAD
abbrev pub last_end : List ℕ → Class → ℕ → ℕ → ℕ
last_end b class table zero = 0
last_end b class table (suc n) = max (load_end b class (table + header_size class * n)) (last_end b class table n)

-- the same, if their size is that of the class, they are whole in the bytes, and their number is not elsewhere (PN_XNUM)
abbrev pub table_length : List ℕ → Class → ℕ → ℕ → ℕ → Option ℕ
table_length b class table size count =
    if not (size == header_size class) then None
    else if count == 65535 then None
    else if nat_lt (length b) (table + size * count) then None
    else Some (last_end b class table count)

-- by the places of e_phoff, e_phentsize and e_phnum
abbrev pub length_by : List ℕ → Option Class → Option ℕ
length_by b None = None
length_by b (Some Narrow) = table_length b Narrow (field b 28 4) (field b 42 2) (field b 44 2)
length_by b (Some Wide) = table_length b Wide (field b 32 8) (field b 54 2) (field b 56 2)

unfoldable pub whole_length : List ℕ → Option ℕ
whole_length b = length_by b (class_of b)
