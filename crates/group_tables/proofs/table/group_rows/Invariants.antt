use Rattle.std.proofs.Common.{◌≡◌, take, map}
use Rattle.group_tables.specs.Columns.{texts}
use Rattle.group_tables.specs.Table.{group_rows}
use Rattle.group_tables.specs.Values.{row_said}
use Rattle.group_tables.proofs.table.group_rows.Given as goal

abbrev pub invariant-loop-row : goal.invariant-loop-row
invariant-loop-row l = map texts l.all.items ≡ group_rows l.zone l.latest (map row_said (take l.row-index l.rows))
