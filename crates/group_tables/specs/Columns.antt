-- Texts in columns.
use Rattle.std.specs.Prelude.{ℕ, List, [], ◌∷◌, ◌++◌, fold, get_or, length, map, max, Vec}
use Rattle.std.specs.Global.{Global}
use Rattle.std.specs.List.{flat_map}
use Rattle.case_tables.specs.Table.{left_text, right_text}
use Rattle.group_tables.specs.declared.columns.Column.{Column}
use Rattle.group_tables.specs.declared.columns.Side.{Side}
use Rattle.group_tables.specs.declared.columns.Side.TheVariants.{Left, Right, End}

-- the texts of a row
abbrev pub texts : Vec (Vec ℕ Global) Global → List (List ℕ)
texts row = map (λ (t : Vec ℕ Global). t.items) row.items

-- the text of a row at this place from the left
abbrev pub text_at : ℕ → List (List ℕ) → List ℕ
text_at at row = get_or row at []

-- a column is as wide as its widest text
abbrev pub width : ℕ → List (List (List ℕ)) → ℕ
width at rows = fold max 0 (map (λ row. length (text_at at row)) rows)

abbrev pub by_side : Side → ℕ → List ℕ → List ℕ
by_side Left w text = left_text w text
by_side Right w text = right_text w text
by_side End w text = text

abbrev pub placed : List (List ℕ) → Column → List ℕ
placed row c = by_side c.side c.width (text_at c.at row)

-- a row: its texts, each in its column, and a newline
abbrev pub row_text : List Column → List (List ℕ) → List ℕ
row_text columns row = flat_map (placed row) columns ++ 10 ∷ []

-- all rows, one after the other
abbrev pub rows_text : List Column → List (List (List ℕ)) → List ℕ
rows_text columns rows = flat_map (row_text columns) rows

abbrev pub column_of : ℕ → Side → List (List (List ℕ)) → Column
column_of at side rows = record { at = at; side = side; width = width at rows }
