use Rattle.std.specs.List.{AllAdjacentBelow}
use Rattle.std.proofs.Common.{◌≤◌}
use Rattle.address_space.specs.ScanWords.{past_of}
use Rattle.address_space.proofs.table.are_apart.Given as goal

-- so it is of those that went by
abbrev pub invariant-loop-next : goal.invariant-loop-next
invariant-loop-next l = AllAdjacentBelow (λ r s. past_of r ≤ s.start) l.rows l.next
