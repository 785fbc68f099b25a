use Rattle.std.proofs.Common.{◌≡◌, take, map}
use Rattle.group_tables.specs.Summary.{last_time}
use Rattle.group_tables.specs.Values.{member_said}
use Rattle.group_tables.proofs.summary.last_time.Given as goal

abbrev pub invariant-loop-member : goal.invariant-loop-member
invariant-loop-member l = l.last ≡ last_time l.latest (map member_said (take l.member-index l.members))
