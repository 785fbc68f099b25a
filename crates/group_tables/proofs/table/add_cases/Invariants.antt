use Rattle.std.proofs.Common.{◌≡◌, ◌++◌, filter, take, map}
use Rattle.group_tables.specs.Columns.{texts}
use Rattle.group_tables.specs.Table.{case_row, is_so}
use Rattle.group_tables.specs.Values.{member_said}
use Rattle.group_tables.proofs.table.add_cases.Given as goal

abbrev pub invariant-loop-member : goal.invariant-loop-member
invariant-loop-member l =
    map texts l.all.items ≡ map texts l.initial.all.items ++ map (case_row l.zone) (filter (is_so l.is_perhaps) (map member_said (take l.member-index l.members)))
