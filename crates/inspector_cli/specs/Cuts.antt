-- Each script has one cut into items and an ending.
use Rattle.std.specs.Prelude.{◌≡◌, ◌⊎◌, ℕ, ◌<◌, List, ◌∷◌, ◌++◌, length}
use Rattle.std.specs.List.{flat_map, AllByRecursion}
use Rattle.script_streams.specs.Lines.{IsLine}
use Rattle.script_lines.specs.Said.{said, raw_length}
use Rattle.inspector_cli.specs.Session.{Item, IsItem, spelled, Ending, IsEnding, ending_text}

-- A script has no other cut into whole items and an ending.
abbrev pub HasOneCut : Type 0
HasOneCut = (items others : List Item) (ending other : Ending) → AllByRecursion IsItem items → AllByRecursion IsItem others → IsEnding ending → IsEnding other
    → flat_map spelled items ++ ending_text ending ≡ flat_map spelled others ++ ending_text other → (items ≡ others) × (ending ≡ other)

-- Every text has such a cut.
abbrev pub HasACut : Type 0
HasACut = (text : List ℕ) → (items : List Item) × (ending : Ending) × AllByRecursion IsItem items × IsEnding ending × (text ≡ flat_map spelled items ++ ending_text ending)

-- the rest after the whole items of a script that could not be read on: not all of a line, or not all of the bytes after it
abbrev pub IsBrokenOff : List ℕ → Type 0
IsBrokenOff rest = IsLine rest ⊎ ((line : List ℕ) × (raw : List ℕ) × (rest ≡ line ++ 10 ∷ raw) × IsLine line × (length raw < raw_length (said line)))

-- Such a script has no other cut into whole items and the rest after them.
abbrev pub HasOneFront : Type 0
HasOneFront = (items others : List Item) (rest other : List ℕ) → AllByRecursion IsItem items → AllByRecursion IsItem others → IsBrokenOff rest → IsBrokenOff other
    → flat_map spelled items ++ rest ≡ flat_map spelled others ++ other → (items ≡ others) × (rest ≡ other)
