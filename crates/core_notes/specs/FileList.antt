-- NT_FILE (core(5)): a count and a page size; for each mapped file its first address, the address after the last and its
-- place in the file in pages; then the names in the same order, each ended by a NUL.
use Rattle.std.specs.Prelude.{ℕ, zero, suc, ◌+◌, ◌-◌, ◌*◌, ◌^◌, ◌&&◌, not, nat_lt, nat_le, if◌then◌else◌, Bool, List, [], ◌∷◌, length, drop, find, Option, None, Some}
use Rattle.std.specs.List.{range_with_len, after_first, list_all, enumerate_from}
use Rattle.memchr.specs.Find.{is_byte, places}
use Rattle.elf_view.specs.Field.{field, text_before_nul}
use Rattle.core_notes.specs.declared.faults.NoteField.{NoteField}
use Rattle.core_notes.specs.declared.faults.NoteField.TheVariants.{FileCount, FileOffset, FileNames}

abbrev pub file_count : List ℕ → ℕ
file_count d = field d 0 8

abbrev pub page_size : List ℕ → ℕ
page_size d = field d 8 8

-- entry i of the table, whose entries have 24 bytes each
abbrev pub file_start : List ℕ → ℕ → ℕ
file_start d i = field d (16 + 24 * i) 8

abbrev pub file_end : List ℕ → ℕ → ℕ
file_end d i = field d (24 + 24 * i) 8

abbrev pub file_pages : List ℕ → ℕ → ℕ
file_pages d i = field d (32 + 24 * i) 8

-- where the names begin
abbrev pub names_at : List ℕ → ℕ
names_at d = 16 + 24 * file_count d

-- An entry does not end before it starts, and the last byte's place in the file is a u64.
abbrev pub is_entry_sound : List ℕ → ℕ → Bool
is_entry_sound d i =
    nat_le (file_start d i) (file_end d i)
    && nat_le (file_pages d i * page_size d + (file_end d i - file_start d i)) (2 ^ 64 - 1)

-- The checks in order: the count and its entries are there; each entry is sound; there are as many names.
unfoldable pub files_fault : List ℕ → Option NoteField
files_fault d =
    if nat_lt (length d) 16 then Some FileCount
    else (if nat_lt (length d) (names_at d) then Some FileCount
    else (if not (list_all (is_entry_sound d) (range_with_len 0 (file_count d))) then Some FileOffset
    else (if nat_lt (length (places (is_byte 0) (drop (names_at d) d))) (file_count d) then Some FileNames
    else None)))

-- a mapped file, its place in the file in bytes
pub record FileView : Type 0 where
  pub start : ℕ
  pub past : ℕ
  pub offset : ℕ
  pub name : List ℕ

-- n files from number i on, whose names begin these bytes
abbrev pub files_from : List ℕ → ℕ → ℕ → List ℕ → List FileView
files_from d i zero names = []
files_from d i (suc n) names =
    (record { start = file_start d i; past = file_end d i; offset = file_pages d i * page_size d; name = text_before_nul names })
    ∷ files_from d (i + 1) n (after_first (is_byte 0) names)

-- the mapped files, in order
abbrev pub files_of : List ℕ → List FileView
files_of d = files_from d 0 (file_count d) (drop (names_at d) d)

-- start <= a < past, of a mapped file
abbrev pub is_mapping : ℕ → FileView → Bool
is_mapping a f = nat_le f.start a && nat_lt a f.past

-- the first of the files that maps an address, with its number
abbrev pub first_mapping : ℕ → List FileView → Option (ℕ × FileView)
first_mapping a files = find (λ (e : ℕ × FileView). is_mapping a e.1) (enumerate_from 0 files)

-- an entry by its number and its three words, without its name; its place in the file in bytes
pub record EntryView : Type 0 where
  pub number : ℕ
  pub start : ℕ
  pub past : ℕ
  pub offset : ℕ

-- a mapped file without its name
abbrev pub unnamed : ℕ × FileView → EntryView
unnamed e = record { number = e.0; start = e.1.start; past = e.1.past; offset = e.1.offset }

-- entry i of the table
abbrev pub entry_of : List ℕ → ℕ → EntryView
entry_of d i = record { number = i; start = file_start d i; past = file_end d i; offset = file_pages d i * page_size d }
