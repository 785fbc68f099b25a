use Rattle.core_handler.proofs.FrontLemmas.{front_more}
use Rattle.core_handler.proofs.fronts.program_part.Goals as goal

pub loop-after-preserved : goal.loop-after-preserved
loop-after-preserved c =
    let so_far = c.loop-after.invariant in
    let more = c.in-Some.ensures.shared in
    front_more c.args.template.now so_far.0 c.loop-after.rest.now more.0 c.in-Some.after.now so_far.1 so_far.2 more.1 more.2
