-- The file header, the program headers and their counts (System V gABI, "ELF Header" and "Program Header").
use Rattle.std.specs.Prelude.{ℕ, ◌+◌, ◌*◌, ◌==◌, ◌&&◌, nat_lt, nat_le, if◌then◌else◌, Bool, List, [], ◌∷◌, map}
use Rattle.std.specs.List.{range_with_len}
use Rattle.elf_view.specs.Field.{field, part}

-- e_type, e_machine, e_version, e_entry, e_phoff, e_shoff, e_flags, e_phentsize, e_phnum, e_shentsize and e_shnum
abbrev pub e_type : List ℕ → ℕ
e_type b = field b 16 2

abbrev pub e_machine : List ℕ → ℕ
e_machine b = field b 18 2

abbrev pub e_version : List ℕ → ℕ
e_version b = field b 20 4

abbrev pub e_entry : List ℕ → ℕ
e_entry b = field b 24 8

abbrev pub e_phoff : List ℕ → ℕ
e_phoff b = field b 32 8

abbrev pub e_shoff : List ℕ → ℕ
e_shoff b = field b 40 8

abbrev pub e_flags : List ℕ → ℕ
e_flags b = field b 48 4

abbrev pub e_phentsize : List ℕ → ℕ
e_phentsize b = field b 54 2

abbrev pub e_phnum : List ℕ → ℕ
e_phnum b = field b 56 2

abbrev pub e_shentsize : List ℕ → ℕ
e_shentsize b = field b 58 2

abbrev pub e_shnum : List ℕ → ℕ
e_shnum b = field b 60 2

-- The number of program headers: if it does not fit e_phnum, that is PN_XNUM (0xffff),
-- and the number is in sh_info of section header 0, taken as it is.
unfoldable pub segment_count : List ℕ → ℕ
segment_count b = if e_phnum b == 65535 then field b (e_shoff b + 44) 4 else e_phnum b

-- a program header with the part of its file range that lies in the image
pub record SegmentView : Type 0 where
  pub kind : ℕ
  pub flags : ℕ
  pub offset : ℕ
  pub vaddr : ℕ
  pub filesz : ℕ
  pub memsz : ℕ
  pub bytes : List ℕ

-- the program header from place p on
unfoldable pub segment_from : List ℕ → ℕ → SegmentView
segment_from b p = record {
  kind = field b p 4;
  flags = field b (p + 4) 4;
  offset = field b (p + 8) 8;
  vaddr = field b (p + 16) 8;
  filesz = field b (p + 32) 8;
  memsz = field b (p + 40) 8;
  bytes = part b (field b (p + 8) 8) (field b (p + 32) 8);
}

-- a segment that lies in memory: PT_LOAD (1)
abbrev pub is_load : SegmentView → Bool
is_load s = s.kind == 1

-- the address after its last, p_vaddr + p_memsz, which may be 2^64
abbrev pub memory_past : SegmentView → ℕ
memory_past s = s.vaddr + s.memsz

-- p_vaddr <= a < p_vaddr + p_memsz
abbrev pub covers : ℕ → SegmentView → Bool
covers a s = nat_le s.vaddr a && nat_lt a (memory_past s)

-- program header i of the table, whose headers have 56 bytes each
abbrev pub segment_at : List ℕ → ℕ → SegmentView
segment_at b i = segment_from b (e_phoff b + 56 * i)

-- n program headers from number i on
abbrev pub segments_between : List ℕ → ℕ → ℕ → List SegmentView
segments_between b i n = map (segment_at b) (range_with_len i n)

-- the program headers, in table order
abbrev pub segments_of : List ℕ → List SegmentView
segments_of b = segments_between b 0 (segment_count b)

-- a PT_LOAD with the number of its header
pub record LoadView : Type 0 where
  pub number : ℕ
  pub segment : SegmentView

-- the PT_LOADs among program headers, the first of which has number i
unfoldable pub loads_from : ℕ → List SegmentView → List LoadView
loads_from i [] = []
loads_from i (s ∷ ss) = if is_load s then record { number = i; segment = s } ∷ loads_from (i + 1) ss else loads_from (i + 1) ss

-- those of an image, in table order
abbrev pub loads_of : List ℕ → List LoadView
loads_of b = loads_from 0 (segments_of b)
