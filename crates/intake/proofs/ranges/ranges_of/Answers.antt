use Rattle.std.proofs.Common.{refl}
use Rattle.extents.specs.FreeLaws.{run_of}
use Rattle.intake.proofs.RangeLemmas.{none_covered, one_more_covered, all_covered}
use Rattle.intake.proofs.ranges.ranges_of.Goals as goal

pub loop-run-init : goal.loop-run-init
loop-run-init c = rw c.in_ok-ranges.ensures.items (none_covered c.args.shape c.args.runs.now c.args.len)

pub loop-run-preserved : goal.loop-run-preserved
loop-run-preserved c =
    rw c.in_ok-push.ensures.items
    (one_more_covered c.args.shape c.args.runs.now c.args.len c.loop-run.ranges.items c.loop-run.left _ c.loop-run.run-index c.front_of_run-range.result (run_of 0 0) c.loop-run.invariant c.loop-run-test.true c.requires.within c.front_of_run-range.ensures refl)

pub returns : goal.returns
returns c = all_covered c.args.shape c.args.runs.now c.args.len c.loop-run.ranges.items c.loop-run.left c.loop-run.run-index c.loop-run.invariant c.loop-run-test.false
