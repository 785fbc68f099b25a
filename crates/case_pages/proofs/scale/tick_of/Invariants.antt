use Rattle.std.proofs.Common.{◌<◌, ◌≤◌, ◌-◌}
use Rattle.case_pages.proofs.scale.tick_of.Given as goal

abbrev pub invariant-loop-unit : goal.invariant-loop-unit
invariant-loop-unit l = (0 < l.unit) × (l.unit ≤ 1_000_000_000_000_000_000)

abbrev pub decreases-loop-unit : goal.decreases-loop-unit
decreases-loop-unit l = 1_000_000_000_000_000_000 - l.unit
