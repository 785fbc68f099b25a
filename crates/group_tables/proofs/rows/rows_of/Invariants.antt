use Rattle.std.proofs.Common.{◌≡◌, take, map}
use Rattle.crash_signatures.specs.Grouping.{group_said}
use Rattle.journal_layout.specs.Case.{case_of}
use Rattle.group_tables.specs.Rows.{rows_of}
use Rattle.group_tables.specs.Values.{row_said}
use Rattle.group_tables.proofs.rows.rows_of.Given as goal

abbrev pub invariant-loop-group : goal.invariant-loop-group
invariant-loop-group l = map row_said l.rows.items ≡ rows_of (map case_of l.cases) l.cores (map group_said (take l.group-index l.groups))
