-- Sections by their names (System V gABI, "ELF Header", "Sections", "String Table").
use Rattle.std.specs.Prelude.{ℕ, ◌+◌, ◌*◌, ◌==◌, ◌&&◌, not, nat_lt, if◌then◌else◌, Bool, List, [], ◌∷◌, length, find, bit_and, is_none, Option, None, Result, Ok, Err}
use Rattle.std.specs.Option.{option_map, option_and_then}
use Rattle.std.specs.List.{range_with_len}
use Rattle.std.specs.Str.{bytes_eq}
use Rattle.elf_view.specs.Field.{field, part}
use Rattle.elf_view.specs.Header.{e_shoff}
use Rattle.elf_view.specs.SectionTable.{SectionView, section_from, section_count_of}
use Rattle.elf_view.specs.declared.faults.SectionFault.{SectionFault}

-- e_shstrndx
abbrev pub e_shstrndx : List ℕ → ℕ
e_shstrndx b = field b 62 2

-- section header i of the table
abbrev pub nth_section : List ℕ → ℕ → SectionView
nth_section b i = section_from b (e_shoff b + 64 * i)

-- The number of the section that holds the names: if it does not fit e_shstrndx, that is SHN_XINDEX (0xffff), and the number is in sh_link of section header 0.
unfoldable pub names_number : List ℕ → ℕ
names_number b = if e_shstrndx b == 65535 then (nth_section b 0).link else e_shstrndx b

-- the names: the bytes of that section, which is not SHN_UNDEF (0) and one of the count, if they all lie in the image
unfoldable pub names_among : List ℕ → ℕ → Option (List ℕ)
names_among b count =
    if not (names_number b == 0) && nat_lt (names_number b) count then (nth_section b (names_number b)).bytes else None

-- the names have the name at place p, and after it a NUL
abbrev pub stands_at : List ℕ → ℕ → List ℕ → Bool
stands_at names p name =
    bytes_eq (part names p (length name)) name && bytes_eq (part names (p + length name) 1) (0 ∷ [])

-- The section has that name, its bytes are in the file (its type is not SHT_NOBITS, 8), they are not compressed (its flags
-- lack SHF_COMPRESSED, 0x800), and they all lie in the image.
unfoldable pub is_named : List ℕ → List ℕ → SectionView → Bool
is_named names name s =
    not (s.kind == 8) && bit_and s.flags 2048 == 0 && not (is_none s.bytes) && stands_at names s.name name

-- the first of the sections that is so
abbrev pub first_named : List ℕ → List ℕ → ℕ → List ℕ → Option SectionView
first_named b name count names =
    option_map (nth_section b) (find (λ i. is_named names name (nth_section b i)) (range_with_len 0 count))

-- It is looked for if the section headers have no fault and the names are there.
abbrev pub named_among : List ℕ → List ℕ → Result ℕ SectionFault → Option SectionView
named_among b name (Ok count) = option_and_then (first_named b name count) (names_among b count)
named_among b name (Err fault) = None

abbrev pub named_section_of : List ℕ → List ℕ → Option SectionView
named_section_of b name = named_among b name (section_count_of b)

-- The section has that name, its bytes are in the file, and they are compressed (its flags have SHF_COMPRESSED; System V gABI, "Compressed Sections").
unfoldable pub is_compressed : List ℕ → List ℕ → SectionView → Bool
is_compressed names name s = not (s.kind == 8) && not (bit_and s.flags 2048 == 0) && stands_at names s.name name

-- the first of the sections that is so
abbrev pub first_compressed : List ℕ → List ℕ → ℕ → List ℕ → Option SectionView
first_compressed b name count names =
    option_map (nth_section b) (find (λ i. is_compressed names name (nth_section b i)) (range_with_len 0 count))

-- It is looked for as one of bytes that are not compressed.
abbrev pub compressed_among : List ℕ → List ℕ → Result ℕ SectionFault → Option SectionView
compressed_among b name (Ok count) = option_and_then (first_compressed b name count) (names_among b count)
compressed_among b name (Err fault) = None

abbrev pub compressed_section_of : List ℕ → List ℕ → Option SectionView
compressed_section_of b name = compressed_among b name (section_count_of b)
