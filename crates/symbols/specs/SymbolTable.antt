-- The symbol table of an image, its names and its faults (System V gABI, "Sections", "String Table" and "Symbol Table").
use Rattle.std.specs.Prelude.{ℕ, ◌+◌, ◌*◌, ◌%◌, ◌==◌, ◌&&◌, not, nat_lt, if◌then◌else◌, Bool, List, [], ◌∷◌, drop, find, Option, None, Some, unwrap_or, is_none, Result, Ok, Err}
use Rattle.std.specs.Option.{option_map, option_or}
use Rattle.std.specs.Result.{result_unwrap_or}
use Rattle.std.specs.List.{range_with_len, list_any}
use Rattle.memchr.specs.Find.{is_byte}
use Rattle.elf_view.specs.Field.{text_before_nul}
use Rattle.elf_view.specs.Header.{e_shoff}
use Rattle.elf_view.specs.SectionTable.{SectionView, section_from, section_count_of}
use Rattle.elf_view.specs.declared.faults.SectionFault.{SectionFault}
use Rattle.elf_view.specs.declared.faults.SectionFault.TheVariants as sections
use Rattle.symbols.specs.Entry.{functions_of}
use Rattle.symbols.specs.declared.faults.SymbolFault.{SymbolFault}
use Rattle.symbols.specs.declared.faults.SymbolField.{SymbolField}
use Rattle.symbols.specs.declared.faults.SymbolField.TheVariants.{EShentsize, EShoff, ShEntsize, ShSize, ShOffset, ShLink, StName}
use Rattle.symbols.specs.declared.functions.Function.{Function}

abbrev pub fault_at : SymbolField → ℕ → SymbolFault
fault_at f i = record { «field» = f; index = i }

-- how many sections there are, or 0 if that number is bad
abbrev pub count_of_sections : List ℕ → ℕ
count_of_sections b = result_unwrap_or (section_count_of b) 0

-- section header i, of 64 bytes
abbrev pub section_at : List ℕ → ℕ → SectionView
section_at b i = section_from b (e_shoff b + 64 * i)

abbrev pub is_kind : List ℕ → ℕ → ℕ → Bool
is_kind b kind i = (section_at b i).kind == kind

-- the number of the first section of a type
abbrev pub first_of_kind : List ℕ → ℕ → Option ℕ
first_of_kind b kind = find (is_kind b kind) (range_with_len 0 (count_of_sections b))

-- the symbol table: the first SHT_SYMTAB (2), else the first SHT_DYNSYM (11)
unfoldable pub table_number : List ℕ → Option ℕ
table_number b = option_or (first_of_kind b 2) (first_of_kind b 11)

-- a section's bytes, if they all lie in the image
abbrev pub section_bytes : List ℕ → ℕ → List ℕ
section_bytes b i = unwrap_or (section_at b i).bytes []

-- the string table of section i is the section that its sh_link names
abbrev pub linked : List ℕ → ℕ → ℕ
linked b i = (section_at b i).link

-- an SHT_STRTAB (3) among the sections
abbrev pub is_string_table : List ℕ → ℕ → Bool
is_string_table b i = nat_lt i (count_of_sections b) && is_kind b 3 i

-- the entries of the symbol table, and the bytes of its string table; no symbol table has none of either
abbrev pub entries_at : List ℕ → Option ℕ → List ℕ
entries_at b None = []
entries_at b (Some i) = section_bytes b i

abbrev pub strings_at : List ℕ → Option ℕ → List ℕ
strings_at b None = []
strings_at b (Some i) = section_bytes b (linked b i)

abbrev pub entries_of : List ℕ → List ℕ
entries_of b = entries_at b (table_number b)

abbrev pub strings_of : List ℕ → List ℕ
strings_of b = strings_at b (table_number b)

-- the bytes of a string table from a place on up to a NUL, and whether there is one
abbrev pub name_at : List ℕ → ℕ → List ℕ
name_at strings place = text_before_nul (drop place strings)

unfoldable pub ends_in_nul : List ℕ → ℕ → Bool
ends_in_nul strings place = list_any (is_byte 0) (drop place strings)

-- a check: whether it fails, and the fault that it then has
abbrev pub Check : Type 0
Check = Bool × SymbolFault

abbrev pub first_failing : List Check → Option SymbolFault
first_failing [] = None
first_failing (check ∷ checks) = if check.0 then Some check.1 else first_failing checks

-- section i as a symbol table: entries of 24 bytes, whole ones, that lie in the image; a string table that does so too
abbrev pub table_checks : List ℕ → ℕ → List Check
table_checks b i =
    (not ((section_at b i).entsize == 24), fault_at ShEntsize i)
    ∷ (not ((section_at b i).size % 24 == 0), fault_at ShSize i)
    ∷ (is_none (section_at b i).bytes, fault_at ShOffset i)
    ∷ (not (is_string_table b (linked b i)), fault_at ShLink i)
    ∷ (is_none (section_at b (linked b i)).bytes, fault_at ShOffset (linked b i))
    ∷ []

-- a function whose name has no end
abbrev pub is_unended : List ℕ → Function → Bool
is_unended strings f = not (ends_in_nul strings f.name)

abbrev pub name_fault_at : Function → SymbolFault
name_fault_at f = fault_at StName f.index

-- the first function whose name has no end
abbrev pub name_fault : List ℕ → List Function → Option SymbolFault
name_fault strings fs = option_map name_fault_at (find (is_unended strings) fs)

-- the faults of the section headers
abbrev pub section_fault : Result ℕ SectionFault → Option SymbolFault
section_fault (Ok count) = None
section_fault (Err sections.EShentsize) = Some (fault_at EShentsize 0)
section_fault (Err sections.EShoff) = Some (fault_at EShoff 0)
section_fault (Err sections.NoSection) = None

-- the first fault of the symbol table that is section i; without such a table there is no fault
abbrev pub table_fault : List ℕ → Option ℕ → Option SymbolFault
table_fault b None = None
table_fault b (Some i) = first_failing (table_checks b i)

-- The first fault: of the section headers, of the symbol table and its string table, of the functions' names.
unfoldable pub first_fault : List ℕ → Option SymbolFault
first_fault b =
    option_or (section_fault (section_count_of b))
    (option_or (table_fault b (table_number b))
    (name_fault (strings_of b) (functions_of (entries_of b))))
