use Rattle.std.proofs.Common.{◌≡◌, ◌≤◌, take, map}
use Rattle.group_tables.specs.Summary.{certain_count}
use Rattle.group_tables.specs.Values.{member_said}
use Rattle.group_tables.proofs.summary.certain_count.Given as goal

abbrev pub invariant-loop-member : goal.invariant-loop-member
invariant-loop-member l = (l.count ≡ certain_count (map member_said (take l.member-index l.members))) × (l.count ≤ l.member-index)
