use Rattle.intake.proofs.RangeLemmas.{FrontCovered}
use Rattle.intake.proofs.ranges.ranges_of.Given as goal

abbrev pub invariant-loop-run : goal.invariant-loop-run
invariant-loop-run l = FrontCovered l.shape l.runs l.len l.ranges.items l.left l.run-index
