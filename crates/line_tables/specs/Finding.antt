-- The source line of an address, or why it has no line.
use Rattle.std.specs.Prelude.{ℕ, ◌==◌, ◌||◌, if◌then◌else◌, List, [], ◌∷◌, length, Option, None, Some, Result, Ok, Err}
use Rattle.std.specs.Option.{option_map, option_or}
use Rattle.line_tables.specs.Chain.{and_then}
use Rattle.line_tables.specs.Files.{PathView, path, file_path, is_absolute, text_of}
use Rattle.line_tables.specs.Forms.{StringsView}
use Rattle.line_tables.specs.Header.{HeaderView, header_in}
use Rattle.line_tables.specs.Rows.{rows_of}
use Rattle.line_tables.specs.Sequences.{sequences_in, row_among}
use Rattle.line_tables.specs.Units.{UnitView, units_in}
use Rattle.line_tables.specs.declared.faults.LineFault.{LineFault}
use Rattle.line_tables.specs.declared.faults.LineField.{LineField}
use Rattle.line_tables.specs.declared.faults.LineField.TheVariants as fields
use Rattle.line_tables.specs.declared.faults.NoLine.{NoLine}
use Rattle.line_tables.specs.declared.faults.NoLine.TheVariants.{Uncovered, Faulty}
use Rattle.line_tables.specs.declared.registers.Row.{Row}

-- the section .debug_line, and those that its texts are in
pub record TablesView : Type 0 where
  pub debug_line : List ℕ
  pub strings : StringsView

abbrev pub tables : List ℕ → List ℕ → List ℕ → TablesView
tables debug_line debug_line_str debug_str =
    record { debug_line = debug_line; strings = record { debug_line_str = debug_line_str; debug_str = debug_str } }

-- the header in a unit's bytes
abbrev pub header_by : TablesView → Option (List ℕ) → Result HeaderView LineField
header_by t None = Err fields.UnitLength
header_by t (Some bytes) = header_in t.strings (length t.debug_line) bytes

abbrev pub header_of : TablesView → UnitView → Result HeaderView LineField
header_of t u = header_by t u.bytes

-- a unit without a fault: its place, its header, and its sequences
pub record TableView : Type 0 where
  pub place : ℕ
  pub header : HeaderView
  pub sequences : List (List Row)

abbrev pub table_of : ℕ → HeaderView → List (List Row) → TableView
table_of p h ss = record { place = p; header = h; sequences = ss }

unfoldable pub table_in : TablesView → UnitView → Result TableView LineField
table_in t u = and_then (header_of t u) (λ h. and_then (sequences_in (rows_of h)) (λ ss. Ok (table_of u.place h ss)))

-- the row of an address, with the place and the header of its table
pub record PlaceView : Type 0 where
  pub table : ℕ
  pub header : HeaderView
  pub row : Row

abbrev pub place : ℕ → HeaderView → Row → PlaceView
place p h r = record { table = p; header = h; row = r }

abbrev pub place_among : ℕ → TableView → Option PlaceView
place_among v table = option_map (place table.place table.header) (row_among v table.sequences)

abbrev pub place_by : ℕ → Result TableView LineField → Option PlaceView
place_by v (Ok table) = place_among v table
place_by v (Err f) = None

-- A unit with a fault provides nothing: of the others, the first that has the address.
unfoldable pub first_place : TablesView → ℕ → List UnitView → Option PlaceView
first_place t v [] = None
first_place t v (u ∷ us) = option_or (place_by v (table_in t u)) (first_place t v us)

abbrev pub place_in : TablesView → ℕ → UnitView → Result (Option PlaceView) LineField
place_in t v u = and_then (table_in t u) (λ table. Ok (place_among v table))

abbrev pub fault_by : ℕ → Result TableView LineField → Option LineFault
fault_by i (Ok table) = None
fault_by i (Err f) = Some (record { «field» = f; index = i })

-- the fault of the first unit that has one
unfoldable pub first_fault : TablesView → List UnitView → Option LineFault
first_fault t [] = None
first_fault t (u ∷ us) = option_or (fault_by u.index (table_in t u)) (first_fault t us)

-- A source line. A path that is in the directory of the compilation, which is not in its line table, has the place of that table.
pub record LineView : Type 0 where
  pub file : PathView
  pub line : ℕ
  pub table : Option ℕ

-- Versions 2 to 4 (DWARF 4, 6.2.4, 11 and 12): a path that is not absolute is in the directory of the compilation.
abbrev pub relative_to : PlaceView → PathView → Option ℕ
relative_to p f = if p.header.version == 5 || is_absolute (text_of f) then None else Some p.table

abbrev pub line_by : PlaceView → Option PathView → Result LineView NoLine
line_by p None = Err Uncovered
line_by p (Some f) = Ok (record { file = f; line = p.row.line; table = relative_to p f })

-- The code of a row with line 0 comes from no line.
unfoldable pub line_of : PlaceView → Result LineView NoLine
line_of p = if p.row.line == 0 then Err Uncovered else line_by p (file_path p.header p.row.file)

-- a line whose path is in a directory
abbrev pub within : List ℕ → LineView → LineView
within directory l = record { file = path directory l.file.directory l.file.name; line = l.line; table = None }

-- if no unit without a fault has the address, a fault may hide it
abbrev pub answer : Option PlaceView → Option LineFault → Result LineView NoLine
answer (Some p) fault = line_of p
answer None (Some fault) = Err (Faulty fault)
answer None None = Err Uncovered

abbrev pub units_of : TablesView → List UnitView
units_of t = units_in t.debug_line

unfoldable pub line_at : TablesView → ℕ → Result LineView NoLine
line_at t v = answer (first_place t v (units_of t)) (first_fault t (units_of t))
