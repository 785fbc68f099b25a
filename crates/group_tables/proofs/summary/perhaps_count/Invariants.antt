use Rattle.std.proofs.Common.{◌≡◌, ◌≤◌, take, map}
use Rattle.group_tables.specs.Summary.{perhaps_count}
use Rattle.group_tables.specs.Values.{member_said}
use Rattle.group_tables.proofs.summary.perhaps_count.Given as goal

abbrev pub invariant-loop-member : goal.invariant-loop-member
invariant-loop-member l = (l.count ≡ perhaps_count (map member_said (take l.member-index l.members))) × (l.count ≤ l.member-index)
