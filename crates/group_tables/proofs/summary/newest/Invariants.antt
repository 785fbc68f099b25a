use Rattle.std.proofs.Common.{◌≡◌, take, map}
use Rattle.group_tables.specs.Summary.{newest}
use Rattle.group_tables.specs.Values.{member_said}
use Rattle.group_tables.proofs.summary.newest.Given as goal

abbrev pub invariant-loop-member : goal.invariant-loop-member
invariant-loop-member l = l.newest ≡ newest (map member_said (take l.member-index l.members))
