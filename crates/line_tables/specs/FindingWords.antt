-- The meaning of the code's line tables, places and lines.
use Rattle.std.specs.Prelude.{Result, Ok, Err}
use Rattle.line_tables.specs.EntryWords.{strings_view}
use Rattle.line_tables.specs.FileWords.{path_view}
use Rattle.line_tables.specs.Finding.{TablesView, PlaceView, LineView}
use Rattle.line_tables.specs.HeaderWords.{header_view}
use Rattle.line_tables.specs.declared.faults.NoLine.{NoLine}
use Rattle.line_tables.specs.declared.line_tables.Line.{Line}
use Rattle.line_tables.specs.declared.line_tables.LineTables.{LineTables}
use Rattle.line_tables.specs.declared.line_tables.Place.{Place}

abbrev pub tables_view : LineTables → TablesView
tables_view t = record { debug_line = t.debug_line.now; strings = strings_view t.strings }

abbrev pub place_view : Place → PlaceView
place_view p = record { table = p.table; header = header_view p.header; row = p.row }

abbrev pub line_view : Line → LineView
line_view l = record { file = path_view l.file; line = l.line; table = l.table }

abbrev pub told : Result Line NoLine → Result LineView NoLine
told (Ok l) = Ok (line_view l)
told (Err e) = Err e
