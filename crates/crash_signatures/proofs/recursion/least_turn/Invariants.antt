use Rattle.std.proofs.Common.{◌≡◌, ◌-◌, map}
use Rattle.crash_signatures.specs.Recursion.{least_turn}
use Rattle.crash_signatures.specs.WordViews.{said}
use Rattle.crash_signatures.proofs.recursion.least_turn.Given as goal

abbrev pub invariant-loop-places : goal.invariant-loop-places
invariant-loop-places l = map said l.best.items ≡ least_turn (l.places - 1) (map said l.cycle)
