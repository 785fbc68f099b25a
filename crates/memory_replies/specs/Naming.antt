-- The function at an address of an executable that is used for a mapped file: by the symbols of the executable; if none of them has
-- the address, by those of its debug file (GDB, "Debugging Information in Separate Files").
use Rattle.std.specs.Prelude.{ℕ, ◌-◌, ◌&&◌, if◌then◌else◌, Bool, List, filter, find, map, Option, None, Some, is_none}
use Rattle.std.specs.List.{list_any, range_with_len}
use Rattle.std.specs.Option.{option_and_then, option_map, option_or}
use Rattle.core_notes.specs.FileList.{FileView}
use Rattle.address_space.specs.Source.{ExecutableView, SpotView, entry_at, is_named, spot_of}
use Rattle.elf_view.specs.Sound.{first_fault}
use Rattle.elf_view.specs.declared.faults.Want.TheVariants.{Exec}
use Rattle.symbols.specs.Names.{SymbolView, symbol_in}
use Rattle.symbols.specs.Offsets.{address_of}
use Rattle.symbols.specs.SymbolTable.{count_of_sections, is_kind}
use Rattle.memory_replies.specs.Memory.{is_attached}
use Rattle.memory_replies.specs.Places.{PlaceView, place_by}
use Rattle.memory_replies.specs.Symbol.{executable_fault}

-- an executable, and its debug file, if it has one
pub record NamedFile : Type 0 where
  pub file : ExecutableView
  pub debug : Option ExecutableView

-- those that pass the checks of their headers, each with the debug file of its path
abbrev pub with_debug : List ExecutableView → ExecutableView → NamedFile
with_debug debugs x = record { file = x; debug = find (is_named x.path) debugs }

abbrev pub named_files : List ExecutableView → List ExecutableView → List NamedFile
named_files executables debugs = map (with_debug debugs) (filter is_attached executables)

-- all bytes of its debug file
abbrev pub debug_image : NamedFile → Option (List ℕ)
debug_image n = option_map (λ (d : ExecutableView). d.image) n.debug

-- the function of a file at an address, if neither its headers nor its symbols have a fault
unfoldable pub own_symbol : List ℕ → ℕ → Option SymbolView
own_symbol image v = if is_none (executable_fault image) then symbol_in image v else None

-- a file has a complete symbol table (SHT_SYMTAB, 2)
unfoldable pub has_symbol_table : List ℕ → Bool
has_symbol_table image = list_any (is_kind image 2) (range_with_len 0 (count_of_sections image))

-- a debug file that names functions: its SHT_DYNSYM has no bytes
abbrev pub naming_debug : List ℕ → Option (List ℕ)
naming_debug image = if is_none (first_fault Exec image) && has_symbol_table image then Some image else None

abbrev pub debug_symbol : ℕ → List ℕ → Option SymbolView
debug_symbol v image = option_and_then (λ b. own_symbol b v) (naming_debug image)

abbrev pub symbol_of_debug : ℕ → Option ExecutableView → Option SymbolView
symbol_of_debug v debug = option_and_then (λ (d : ExecutableView). debug_symbol v d.image) debug

-- the executable's goes first
abbrev pub symbol_at : NamedFile → ℕ → Option SymbolView
symbol_at n v = option_or (own_symbol n.file.image v) (symbol_of_debug v n.debug)

-- The function at an offset of the executable. Its own PT_LOADs say which address that is: those of a debug file may speak of bytes that
-- it has not.
abbrev pub function_in : ℕ → ℕ → NamedFile → Option PlaceView
function_in behind offset n = option_and_then (λ v. option_map (place_by behind v) (symbol_at n v)) (address_of n.file.image offset)

abbrev pub has_path : List ℕ → NamedFile → Bool
has_path path n = is_named path n.file

-- at a place of a mapped file, by the first executable of that name
abbrev pub function_at_spot : List NamedFile → ℕ → SpotView → Option PlaceView
function_at_spot files behind spot = option_and_then (function_in behind spot.offset) (find (has_path spot.name) files)

-- at the address that is looked up for a pc, if one is
unfoldable pub function_of : List FileView → List NamedFile → ℕ → Option ℕ → Option PlaceView
function_of mapped files pc address = option_and_then (λ a. option_and_then (function_at_spot files (pc - a)) (spot_of a (entry_at mapped a))) address
