use Rattle.std.proofs.Common.{◌≡◌, take, map}
use Rattle.group_tables.specs.Cells.{case_cell, case_columns}
use Rattle.group_tables.specs.Columns.{texts}
use Rattle.group_tables.specs.Values.{member_said}
use Rattle.group_tables.proofs.table.case_texts.Given as goal

abbrev pub invariant-loop-column : goal.invariant-loop-column
invariant-loop-column l = texts l.all ≡ map (case_cell l.zone (member_said l.member)) (take l.column-index case_columns)
