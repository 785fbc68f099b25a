use Rattle.std.proofs.Common.{◌≡◌, take, map}
use Rattle.group_tables.specs.Summary.{labels}
use Rattle.group_tables.specs.Values.{member_said}
use Rattle.group_tables.proofs.labels.labels_of.Given as goal

abbrev pub invariant-loop-at : goal.invariant-loop-at
invariant-loop-at l = map (λ t. t.now) l.labels.items ≡ labels (map member_said (take l.at l.members))
