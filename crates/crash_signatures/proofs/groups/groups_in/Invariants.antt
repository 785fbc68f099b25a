use Rattle.std.proofs.Common.{◌≡◌, map, take}
use Rattle.crash_signatures.specs.Grouping.{group_said, group_with}
use Rattle.crash_signatures.specs.Groups.{signatures}
use Rattle.crash_signatures.proofs.groups.groups_in.Given as goal

abbrev pub invariant-loop-at : goal.invariant-loop-at
invariant-loop-at l = map group_said l.groups.items ≡ map (group_with l.members) (signatures (take l.at l.members))
