use Rattle.std.proofs.Common.{◌≡◌, ◌≤◌}
use Rattle.core_checks.specs.Whole as spec
use Rattle.core_checks.proofs.whole.last_end.Given as goal

abbrev pub invariant-loop-i : goal.invariant-loop-i
invariant-loop-i l = (l.end ≡ spec.last_end l.front l.class l.table l.i) × (l.size ≡ spec.header_size l.class) × (l.i ≤ l.count)
