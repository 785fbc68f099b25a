use Rattle.std.proofs.Common.{ap, arith, length}
use Rattle.case_screens.proofs.told_notes.thread_count.Goals as goal

pub returns : goal.returns
returns c =
    let so_far = c.loop-count.invariant.same in
    let within = c.loop-count.invariant.within in
    omega (arith, so_far, within, ap length c.in_default.ensures.steps.0)
