-- Debug files: the files that `objcopy --only-keep-debug` makes of an executable (GDB, "Debugging Information in Separate Files"; System V
-- gABI, "Sections"). Their program headers may be the executable's own, though the file lacks the bytes that these describe. So a debug
-- file's notes are found by its section headers.
use Rattle.std.specs.Prelude.{ℕ, ◌==◌, ◌&&◌, ◌||◌, not, if◌then◌else◌, Bool, List, [], map, bit_and, is_none, Option, None, Some, Result, Ok, Err}
use Rattle.std.specs.List.{flat_map, list_any, range_with_len}
use Rattle.elf_view.specs.SectionNames.{nth_section}
use Rattle.elf_view.specs.SectionTable.{SectionView, section_count_of}
use Rattle.elf_view.specs.Sound.{first_fault}
use Rattle.elf_view.specs.declared.faults.SectionFault.{SectionFault}
use Rattle.elf_view.specs.declared.faults.Want.TheVariants.{Exec}
use Rattle.build_ids.specs.BuildId.{build_id_of, id_among}
use Rattle.build_ids.specs.BuildName.{build_name, debug_name, has_name}
use Rattle.build_ids.specs.Notes.{NoteView, notes_in, padding_by}
use Rattle.build_ids.specs.declared.padding.Padding.{Padding}

-- how many sections there are; none, if the section table has a fault
abbrev pub counted : Result ℕ SectionFault → ℕ
counted (Ok count) = count
counted (Err fault) = 0

-- n sections from number i on, in table order
abbrev pub sections_between : List ℕ → ℕ → ℕ → List SectionView
sections_between b i n = map (nth_section b) (range_with_len i n)

-- all of an image
abbrev pub sections_of : List ℕ → List SectionView
sections_of b = sections_between b 0 (counted (section_count_of b))

-- a section of code (SHF_ALLOC, 2, and SHF_EXECINSTR, 4) without bytes in the file (SHT_NOBITS, 8)
unfoldable pub is_empty_code : SectionView → Bool
is_empty_code s = s.kind == 8 && not (bit_and s.flags 2 == 0) && not (bit_and s.flags 4 == 0)

-- An image is a debug file: it has no fault as an executable, and code whose bytes are not in it.
unfoldable pub is_debug : List ℕ → Bool
is_debug b = is_none (first_fault Exec b) && list_any is_empty_code (sections_of b)

-- the notes that are in the file, if they are
abbrev pub notes_held : Padding → Option (List ℕ) → List NoteView
notes_held p None = []
notes_held p (Some bytes) = notes_in p bytes

-- those of a section of notes (SHT_NOTE, 7), padded by its sh_addralign
unfoldable pub section_notes : SectionView → List NoteView
section_notes s = if s.kind == 7 then notes_held (padding_by s.addralign) s.bytes else []

-- The build ID of a debug file, by its sections of notes. Bytes with a fault as an executable have none.
unfoldable pub debug_id_of : List ℕ → Option (List ℕ)
debug_id_of b = if is_none (first_fault Exec b) then id_among (flat_map section_notes (sections_of b)) else None

-- the name of that kind, if there is an ID that has one
abbrev pub name_by : (List ℕ → List ℕ) → Option (List ℕ) → Option (List ℕ)
name_by name None = None
name_by name (Some id) = if has_name id then Some (name id) else None

-- The name by which a file is stored: that of a debug file, if it is one or is said to be one, else that of an executable.
unfoldable pub told_name : Bool → List ℕ → Option (List ℕ)
told_name debug b = if debug || is_debug b then name_by debug_name (debug_id_of b) else name_by build_name (build_id_of b)
