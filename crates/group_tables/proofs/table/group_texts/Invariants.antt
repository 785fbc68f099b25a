use Rattle.std.proofs.Common.{◌≡◌, take, map}
use Rattle.group_tables.specs.Cells.{group_cell, group_columns}
use Rattle.group_tables.specs.Columns.{texts}
use Rattle.group_tables.specs.Values.{row_said}
use Rattle.group_tables.proofs.table.group_texts.Given as goal

abbrev pub invariant-loop-column : goal.invariant-loop-column
invariant-loop-column l = texts l.all ≡ map (group_cell l.zone l.latest (row_said l.row)) (take l.column-index group_columns)
