use Rattle.std.proofs.Common.{◌≡◌, take, map}
use Rattle.group_tables.specs.Cells.{group_columns, group_heading}
use Rattle.group_tables.specs.Columns.{texts}
use Rattle.group_tables.proofs.table.group_heads.Given as goal

abbrev pub invariant-loop-column : goal.invariant-loop-column
invariant-loop-column l = texts l.all ≡ map group_heading (take l.column-index group_columns)
