-- The address that a byte of the file has in memory (System V gABI, "Program Header").
use Rattle.std.specs.Prelude.{ℕ, ◌+◌, ◌-◌, ◌^◌, ◌==◌, ◌&&◌, nat_lt, nat_le, if◌then◌else◌, Bool, List, find, Option, None, Some}
use Rattle.std.specs.Option.{option_and_then}
use Rattle.elf_view.specs.Header.{SegmentView, segments_of}

-- a PT_LOAD (1) whose bytes in the file have one at this offset
abbrev pub has_offset : ℕ → SegmentView → Bool
has_offset offset s = s.kind == 1 && nat_le s.offset offset && nat_lt offset (s.offset + s.filesz)

-- the address of that byte, if it has one
abbrev pub address_in : ℕ → SegmentView → Option ℕ
address_in offset s =
    if nat_lt (s.vaddr + (offset - s.offset)) (2 ^ 64) then Some (s.vaddr + (offset - s.offset)) else None

-- the first that has the byte decides
abbrev pub address_of : List ℕ → ℕ → Option ℕ
address_of b offset = option_and_then (address_in offset) (find (has_offset offset) (segments_of b))
