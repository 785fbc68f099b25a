use Rattle.std.proofs.Common.{◌≡◌, ◌-◌, drop, map}
use Rattle.crash_signatures.specs.Recursion.{cycle_among}
use Rattle.crash_signatures.specs.WordViews.{said}
use Rattle.crash_signatures.proofs.recursion.cycle_in.Given as goal

abbrev pub invariant-loop-start : goal.invariant-loop-start
invariant-loop-start l = cycle_among 16 (map said l.words) ≡ cycle_among (16 - l.start) (drop l.start (map said l.words))
