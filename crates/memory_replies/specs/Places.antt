-- The place of a pc: its function, by the symbols of the executables that are attached for mapped files.
use Rattle.std.specs.Prelude.{ℕ, ◌+◌, ◌-◌, if◌then◌else◌, Bool, List, ◌++◌, filter, find, Option, None, Some, is_none, codes}
use Rattle.std.specs.Option.{option_and_then, option_map}
use Rattle.script_words.specs.Printing.{shown, hexadecimal}
use Rattle.core_notes.specs.FileList.{FileView}
use Rattle.address_space.specs.Source.{ExecutableView, SpotView, entry_at, is_named, spot_of}
use Rattle.symbols.specs.Names.{SymbolView, symbol_in}
use Rattle.symbols.specs.Offsets.{address_of}
use Rattle.memory_replies.specs.Symbol.{executable_fault}

-- the place of a pc: its distance from the value of a function
pub record PlaceView : Type 0 where
  pub name : List ℕ
  pub distance : ℕ

-- the distance of the pc, which is d after the address that was looked up, from the function's value
abbrev pub place_by : ℕ → ℕ → SymbolView → PlaceView
place_by d v s = record { name = s.name; distance = v + d - s.value }

-- an executable whose headers and symbols have no fault
abbrev pub has_symbols : ExecutableView → Bool
has_symbols x = is_none (executable_fault x.image)

-- those of these executables
abbrev pub known_among : List ExecutableView → List ExecutableView
known_among executables = filter has_symbols executables

-- the executable, if it has symbols
abbrev pub if_known : ExecutableView → Option ExecutableView
if_known x = if has_symbols x then Some x else None

-- the function at an offset of an executable
abbrev pub place_in : ℕ → ℕ → ExecutableView → Option PlaceView
place_in d offset x = option_and_then (λ v. option_map (place_by d v) (symbol_in x.image v)) (address_of x.image offset)

-- the function at a place of a mapped file, by the first executable of that name
abbrev pub place_at_spot : List ExecutableView → ℕ → SpotView → Option PlaceView
place_at_spot known d spot = option_and_then (place_in d spot.offset) (find (is_named spot.name) known)

-- the function at the address that is looked up for a pc, if one is
unfoldable pub place_of : List FileView → List ExecutableView → ℕ → Option ℕ → Option PlaceView
place_of files known pc address = option_and_then (λ a. option_and_then (place_at_spot known (pc - a)) (spot_of a (entry_at files a))) address

-- `NAME+h`, or `?` if it is not known
abbrev pub place_words : Option PlaceView → List ℕ
place_words None = codes "?"
place_words (Some p) = shown p.name ++ (codes "+" ++ hexadecimal p.distance)
