use Rattle.std.proofs.Common.{◌≡◌, ◌-◌, map}
use Rattle.crash_signatures.specs.Recursion.{period_from}
use Rattle.crash_signatures.specs.WordViews.{said}
use Rattle.crash_signatures.proofs.recursion.period_of.Given as goal

abbrev pub invariant-loop-period : goal.invariant-loop-period
invariant-loop-period l = period_from 8 1 (map said l.run) ≡ period_from (9 - l.period) l.period (map said l.run)
