-- When an image is accepted: a table of checks, tried in order, each with the field that it is about (System V gABI,
-- "ELF Header", "Program Header", "Note Section"; the RISC-V ELF psABI; Linux's elfcore notes).
use Rattle.std.specs.Prelude.{◌≡◌, ◌<◌, ◌≤◌, ℕ, ◌+◌, ◌-◌, ◌*◌, ◌^◌, ◌==◌, ◌&&◌, ◌||◌, not, nat_lt, nat_le, nat_eq, min, Bool, true, false, if◌then◌else◌, List, [], ◌∷◌, ◌++◌, length, map, slice_index, slice_get, Option, None, Some, IsTrue, is_none}
use Rattle.std.specs.Option.{option_or, option_map}
use Rattle.std.specs.List.{starts_with, list_all}
use Rattle.elf_view.specs.Header.{e_type, e_machine, e_version, e_phoff, e_shoff, e_phentsize, e_phnum, segment_count, SegmentView, segments_of}
use Rattle.elf_view.specs.NoteList.{n_namesz, n_descsz, padded, desc_at, all_rests}
use Rattle.elf_view.specs.declared.faults.Want.{Want}
use Rattle.elf_view.specs.declared.faults.Want.TheVariants.{Core, Exec}
use Rattle.elf_view.specs.declared.faults.ElfFault.{ElfFault}
use Rattle.elf_view.specs.declared.faults.ElfField.{ElfField}
use Rattle.elf_view.specs.declared.faults.ElfField.TheVariants as fields

-- a check: whether it fails, and the field that is bad if it does
abbrev pub Check : Type 0
Check = Bool × ElfField

-- the field of the first check that fails
abbrev pub first_failing : List Check → Option ElfField
first_failing [] = None
first_failing (check ∷ checks) = if check.0 then Some check.1 else first_failing checks

-- whether the n bytes from place p on lie in the image
abbrev pub is_within : List ℕ → ℕ → ℕ → Bool
is_within b p n = nat_le (p + n) (length b)

-- Core wants ET_CORE (4); Exec wants ET_EXEC (2) or ET_DYN (3).
abbrev pub is_other_type : Want → ℕ → Bool
is_other_type Core t = not (t == 4)
is_other_type Exec t = not (t == 2) && not (t == 3)

abbrev pub is_core : Want → Bool
is_core Core = true
is_core Exec = false

-- 0x7f, E, L, F
abbrev pub elf_magic : List ℕ
elf_magic = 127 ∷ 69 ∷ 76 ∷ 70 ∷ []

-- the bytes of e_ident: ELFCLASS64, ELFDATA2LSB and EV_CURRENT
abbrev pub ident_checks : List ℕ → List Check
ident_checks b =
    (nat_lt (length b) 64, fields.Length)
    ∷ (not (starts_with nat_eq b elf_magic), fields.Magic)
    ∷ (not (slice_index b 4 == 2), fields.EiClass)
    ∷ (not (slice_index b 5 == 1), fields.EiData)
    ∷ (not (slice_index b 6 == 1), fields.EiVersion)
    ∷ []

-- the kind of file, EM_RISCV (243) and EV_CURRENT
abbrev pub kind_checks : Want → List ℕ → List Check
kind_checks want b =
    (is_other_type want (e_type b), fields.EType)
    ∷ (not (e_machine b == 243), fields.EMachine)
    ∷ (not (e_version b == 1), fields.EVersion)
    ∷ []

-- program headers of 56 bytes; at PN_XNUM section header 0, which has 64; and the table of program headers
abbrev pub table_checks : List ℕ → List Check
table_checks b =
    (not (e_phnum b == 0) && not (e_phentsize b == 56), fields.EPhentsize)
    ∷ (e_phnum b == 65535 && (e_shoff b == 0 || not (is_within b (e_shoff b) 64)), fields.EShoff)
    ∷ (not (segment_count b == 0) && not (is_within b (e_phoff b) (56 * segment_count b)), fields.EPhoff)
    ∷ []

abbrev pub header_checks : Want → List ℕ → List Check
header_checks want b = ident_checks b ++ kind_checks want b ++ table_checks b

-- A program header, PT_LOAD being 1 and PT_NOTE 4. A core may be cut short within the data of its PT_LOAD segments.
abbrev pub segment_checks : Want → List ℕ → SegmentView → List Check
segment_checks want b s =
    (s.kind == 1 && nat_lt s.memsz s.filesz, fields.PFilesz)
    ∷ (s.kind == 1 && nat_lt (2 ^ 64) (s.vaddr + s.memsz), fields.PMemsz)
    ∷ (is_core want && s.kind == 4 && not (is_within b s.offset s.filesz), fields.POffset)
    ∷ []

-- The note at the front of the rest of its segment: its 12 bytes and its name with the padding are there, and its descriptor is.
abbrev pub note_checks : List ℕ → List Check
note_checks bytes =
    (nat_lt (length bytes) 12 || nat_lt (length bytes) (12 + padded (n_namesz bytes)), fields.NNamesz)
    ∷ (nat_lt (length bytes) (desc_at bytes + n_descsz bytes), fields.NDescsz)
    ∷ []

-- The first fault among items from number i on. A number is a u64: it stays at the highest one.
abbrev pub next_index : ℕ → ℕ
next_index i = min (i + 1) (2 ^ 64 - 1)

abbrev pub fault_at : ℕ → ElfField → ElfFault
fault_at i f = record { «field» = f; index = i }

unfoldable pub first_fault_among : {A : Type 0} → (A → List Check) → ℕ → List A → Option ElfFault
first_fault_among checks i [] = None
first_fault_among checks i (x ∷ xs) = option_or (option_map (fault_at i) (first_failing (checks x))) (first_fault_among checks (next_index i) xs)

-- the first fault of the header, of the program headers and, in a core, of the notes
abbrev pub header_fault : Want → List ℕ → Option ElfFault
header_fault want b = option_map (fault_at 0) (first_failing (header_checks want b))

abbrev pub segment_fault : Want → List ℕ → Option ElfFault
segment_fault want b = first_fault_among (segment_checks want b) 0 (segments_of b)

abbrev pub note_fault : Want → List ℕ → Option ElfFault
note_fault Core b = first_fault_among note_checks 0 (all_rests (segments_of b))
note_fault Exec b = None

-- the first check of all that fails
unfoldable pub first_fault : Want → List ℕ → Option ElfFault
first_fault want b = option_or (header_fault want b) (option_or (segment_fault want b) (note_fault want b))

-- A row of the table of checks: whether the check fails, and the fault that it then is.
abbrev pub Row : Type 0
Row = Bool × ElfFault

abbrev pub row_of : ℕ → Check → Row
row_of i check = (check.0, fault_at i check.1)

abbrev pub passes : Row → Bool
passes row = not row.0

-- the rows of items, the first of which has number i
unfoldable pub rows_among : {A : Type 0} → (A → List Check) → ℕ → List A → List Row
rows_among checks i [] = []
rows_among checks i (x ∷ xs) = map (row_of i) (checks x) ++ rows_among checks (next_index i) xs

-- those of the notes, which an executable has none of
abbrev pub note_rows : Want → List ℕ → List Row
note_rows Core b = rows_among note_checks 0 (all_rests (segments_of b))
note_rows Exec b = []

-- The table: the rows of the header, of the program headers and of the notes.
unfoldable pub table_rows : Want → List ℕ → List Row
table_rows want b =
    map (row_of 0) (header_checks want b) ++ (rows_among (segment_checks want b) 0 (segments_of b) ++ note_rows want b)

-- Each row of the table passes.
abbrev pub IsSound : Want → List ℕ → Type 0
IsSound want b = IsTrue (list_all passes (table_rows want b))

-- the row at a place of a table is this fault, and each row before it passes
abbrev pub IsFirstFailing : List Row → ElfFault → ℕ → Type 0
IsFirstFailing rows fault k =
    (slice_get rows k ≡ Some (true, fault)) × ((j : ℕ) (row : Row) → j < k → slice_get rows j ≡ Some row → passes row ≡ true)

-- a check passes
abbrev pub is_passed : Check → Bool
is_passed check = not check.0

-- The parts that are whole if the header passes: the file header, at PN_XNUM section header 0, and the table of program headers.
pub record IsHeaderWhole (b : List ℕ) : Type 0 where
  pub header : 64 ≤ length b
  pub section_zero : e_phnum b ≡ 65535 → e_shoff b + 64 ≤ length b
  pub table : 0 < segment_count b → e_phoff b + 56 * segment_count b ≤ length b

-- the note at the front of the bytes passes its checks
abbrev pub is_note_whole : List ℕ → Bool
is_note_whole bytes = is_none (first_failing (note_checks bytes))

abbrev pub AreNotesWhole : List (List ℕ) → Type 0
AreNotesWhole rests = IsTrue (list_all is_note_whole rests)

-- the properties of a PT_LOAD that passes its checks: it has no more bytes than it takes, and it ends within the address space
pub record IsLoadable (s : SegmentView) : Type 0 where
  pub filled : s.filesz ≤ s.memsz
  pub ends : s.vaddr + s.memsz ≤ 2 ^ 64
