-- The bytes of sections, decompressed if they are compressed (System V gABI, "Compressed Sections").
use Rattle.std.specs.Prelude.{ℕ, ◌^◌, ◌==◌, ◌&&◌, nat_lt, nat_le, if◌then◌else◌, Bool, List, length, drop, Option, None, is_none, is_some}
use Rattle.std.specs.Option.{option_map, option_and_then, option_or}
use Rattle.elf_view.specs.Field.{field}
use Rattle.elf_view.specs.SectionNames.{compressed_section_of, named_section_of}
use Rattle.elf_view.specs.SectionTable.{SectionView}
use Rattle.inflate.specs.Zlib.{inflated}

-- The header in front of compressed data, an Elf64_Chdr, has 24 bytes: ch_type and ch_size are in it.
abbrev pub ch_type : List ℕ → ℕ
ch_type bytes = field bytes 0 4

abbrev pub ch_size : List ℕ → ℕ
ch_size bytes = field bytes 8 8

-- The bytes of the data: ch_type is ELFCOMPRESS_ZLIB (1), and after the header comes a zlib stream of ch_size bytes, which are fewer than 2^63, since no
-- memory has more.
unfoldable pub decompressed : List ℕ → Option (List ℕ)
decompressed bytes =
    if nat_le 24 (length bytes) && (ch_type bytes == 1 && nat_lt (ch_size bytes) (2 ^ 63)) then inflated (ch_size bytes) (drop 24 bytes) else None

-- the address of a section, and its bytes
pub record DataView : Type 0 where
  pub addr : ℕ
  pub bytes : List ℕ

abbrev pub data_at : ℕ → List ℕ → DataView
data_at addr bytes = record { addr = addr; bytes = bytes }

-- the data of a section that is not compressed, and of one that is
abbrev pub stored_in : SectionView → Option DataView
stored_in s = option_map (data_at s.addr) s.bytes

abbrev pub decompressed_in : SectionView → Option DataView
decompressed_in s = option_map (data_at s.addr) (option_and_then decompressed s.bytes)

-- those of the first section of that name
abbrev pub stored_data : List ℕ → List ℕ → Option DataView
stored_data b name = option_and_then stored_in (named_section_of b name)

abbrev pub decompressed_data : List ℕ → List ℕ → Option DataView
decompressed_data b name = option_and_then decompressed_in (compressed_section_of b name)

-- The data of a section by its name. Only if no section of that name is stored as it is, a compressed one is looked at.
unfoldable pub section_data : List ℕ → List ℕ → Option DataView
section_data b name = option_or (stored_data b name) (decompressed_data b name)

-- There is only a compressed section of that name, and it is not decompressed: it has another ch_type, or it is damaged.
unfoldable pub has_unread : List ℕ → List ℕ → Bool
has_unread b name = is_none (section_data b name) && is_some (compressed_section_of b name)
