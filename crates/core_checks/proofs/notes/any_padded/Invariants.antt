use Rattle.std.proofs.Common.{◌≡◌, ◌≤◌}
use Rattle.core_checks.specs.Unread as spec
use Rattle.core_checks.proofs.notes.any_padded.Given as goal

abbrev pub invariant-loop-i : goal.invariant-loop-i
invariant-loop-i l = (l.found ≡ spec.any_padded l.image l.table l.i) × (l.i ≤ l.count)
