use Rattle.std.proofs.Common.{◌≡◌, take, map}
use Rattle.group_tables.specs.Cells.{case_columns, case_heading}
use Rattle.group_tables.specs.Columns.{texts}
use Rattle.group_tables.proofs.table.case_heads.Given as goal

abbrev pub invariant-loop-column : goal.invariant-loop-column
invariant-loop-column l = texts l.all ≡ map case_heading (take l.column-index case_columns)
