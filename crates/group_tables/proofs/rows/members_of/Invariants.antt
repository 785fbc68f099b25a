use Rattle.std.proofs.Common.{◌≡◌, take, map}
use Rattle.crash_signatures.specs.Grouping.{group_said}
use Rattle.journal_layout.specs.Case.{case_of}
use Rattle.group_tables.specs.Rows.{members_of}
use Rattle.group_tables.specs.Values.{member_said}
use Rattle.group_tables.proofs.rows.members_of.Given as goal

abbrev pub invariant-loop-case : goal.invariant-loop-case
invariant-loop-case l = map member_said l.members.items ≡ members_of (map case_of (take l.case-index l.cases)) (group_said l.group)
