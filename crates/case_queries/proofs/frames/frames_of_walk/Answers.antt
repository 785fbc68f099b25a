use Rattle.std.proofs.Common.{Err, sym, subst}
use Rattle.case_queries.specs.Unwound.{IsUnwound}
use Rattle.case_queries.proofs.FindLemmas.{found_outcome}
use Rattle.case_queries.proofs.FramesLemmas.{frames_shown, stop_shown}
use Rattle.case_queries.proofs.frames.frames_of_walk.Goals as goal

pub returns-in-Ok : goal.returns-in-Ok
returns-in-Ok g c before stored thread sees may =
    let finds = c.in-Ok.ensures.finds before stored thread sees may in
    let is = subst (λ p. IsUnwound finds.0 stored thread p c.in-Ok.unwound) (sym c.in-Ok.ensures.process) finds.3 in
    frames_shown g.D.Disk before c.walk_thread.new.archive c.args.image c.args.found.pieces.items stored thread c.args.asked c.args.found.process c.in-Ok.unwound c.print_frames.result _ finds (c.print_frames.ensures finds.0 stored thread is)

pub returns : goal.returns
returns g c before stored thread sees may =
    (_, stop_shown g.D.Disk before c.walk_thread.new.archive c.args.image c.args.found.pieces.items stored thread c.args.asked c.args.found.process c.in-Err.fault (c.in-Err.ensures.finds before stored thread sees may), found_outcome (Err c.in-Err.fault) _ c.print_found.ensures.done, c.print_found.ensures.states)
