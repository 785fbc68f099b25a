use Rattle.std.proofs.Common.{◌≡◌, take, map}
use Rattle.group_tables.specs.Columns.{texts, width}
use Rattle.group_tables.proofs.columns.column_of.Given as goal

abbrev pub invariant-loop-row : goal.invariant-loop-row
invariant-loop-row l = l.width ≡ width l.at (map texts (take l.row-index l.rows))
