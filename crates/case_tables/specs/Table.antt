-- The cases of an archive as a table for people.
use Rattle.std.specs.Prelude.{ℕ, ◌-◌, max, List, [], ◌∷◌, ◌++◌, length, map, replicate, codes}
use Rattle.std.specs.List.{flat_map}
use Rattle.journal_layout.specs.Case.{Case}
use Rattle.case_tables.specs.declared.columns.Column.{Column}
use Rattle.case_tables.specs.declared.columns.Column.TheVariants.{Number, Time, Pid, Signal, Size, Kept, Name, Label}
use Rattle.case_tables.specs.declared.table.Widths.{Widths}
use Rattle.case_tables.specs.declared.zones.Zone.{Zone}
use Rattle.case_tables.specs.Cells.{cell, heading}

-- the highest of these numbers, or 0
abbrev pub greatest : List ℕ → ℕ
greatest [] = 0
greatest (n ∷ ns) = max n (greatest ns)

-- a column is as wide as its head and each of its cells need
abbrev pub width : Zone → Column → List Case → ℕ
width zone k cases = max (length (heading k)) (greatest (map (λ c. length (cell zone k c)) cases))

-- of each column but the last
abbrev pub widths_of : Zone → List Case → Widths
widths_of zone cases = record {
  number = width zone Number cases;
  time = width zone Time cases;
  pid = width zone Pid cases;
  signal = width zone Signal cases;
  size = width zone Size cases;
  kept = width zone Kept cases;
  name = width zone Name cases;
}

abbrev pub spaces : ℕ → List ℕ
spaces n = replicate n 32

-- a text at the left of a column, and two spaces
abbrev pub left_text : ℕ → List ℕ → List ℕ
left_text w text = text ++ (spaces (w - length text) ++ codes "  ")

-- a text at the right of a column, and two spaces
abbrev pub right_text : ℕ → List ℕ → List ℕ
right_text w text = spaces (w - length text) ++ (text ++ codes "  ")

-- a row, by the text of each column: numbers of cases at the right, all others at the left
abbrev pub row_text : Widths → (Column → List ℕ) → List ℕ
row_text w text =
    right_text w.number (text Number) ++ (left_text w.time (text Time) ++ (left_text w.pid (text Pid) ++ (left_text w.signal (text Signal)
    ++ (left_text w.size (text Size) ++ (left_text w.kept (text Kept) ++ (left_text w.name (text Name) ++ (text Label ++ 10 ∷ [])))))))

-- a case's row
abbrev pub case_row : Zone → Widths → Case → List ℕ
case_row zone w c = row_text w (λ k. cell zone k c)

-- the heads, and a row for each case, with times of a zone
abbrev pub list_table : Zone → List Case → List ℕ
list_table zone cases = row_text (widths_of zone cases) heading ++ flat_map (case_row zone (widths_of zone cases)) cases
