use Rattle.std.proofs.Common.{◌≡◌, min, take, map}
use Rattle.std.specs.Prelude.{fold}
use Rattle.group_tables.specs.Summary.{last_time, times}
use Rattle.group_tables.specs.Values.{member_said}
use Rattle.group_tables.proofs.summary.first_time.Given as goal

abbrev pub invariant-loop-member : goal.invariant-loop-member
invariant-loop-member l =
    l.first ≡ fold min (last_time l.latest (map member_said l.members)) (times l.latest (map member_said (take l.member-index l.members)))
