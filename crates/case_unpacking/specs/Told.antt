-- The text that is printed about the unpacked files.
use Rattle.std.specs.Prelude.{ℕ, List, ◌++◌, codes, decimal}
use Rattle.std.specs.List.{flat_map, zip}
use Rattle.script_words.specs.Printing.{shown}
use Rattle.case_unpacking.specs.GdbCommands.{text_of}
use Rattle.case_unpacking.specs.declared.places.NamedCase.{NamedCase}
use Rattle.case_unpacking.specs.declared.places.Place.{Place}

-- `N PLACE`
abbrev pub place_line : NamedCase × Place → List ℕ
place_line pair = decimal pair.0.case ++ (codes " " ++ (text_of pair.1 ++ codes "\n"))

-- a line for each executable, and how a debugger is started
abbrev pub unpacked_text : List NamedCase → List Place → List ℕ → List ℕ
unpacked_text files places folder = flat_map place_line (zip files places) ++ (codes "cd " ++ (shown folder ++ codes " && gdb-multiarch -x gdb\n"))
