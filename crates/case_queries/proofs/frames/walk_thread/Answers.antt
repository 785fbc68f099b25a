use Rattle.std.proofs.lemmas.Result.{err_from_is_err_and}
use Rattle.case_queries.proofs.FramesLemmas.{stop_found}
use Rattle.case_queries.proofs.frames.walk_thread.Goals as goal

pub returns-in_err-stop-clause-finds : goal.returns-in_err-stop-clause-finds
returns-in_err-stop-clause-finds g c before stored thread sees begins =
    let p = err_from_is_err_and c.from_residual.result c.from_residual.ensures.1 in
    let finds = c.in_err-stop.ensures.finds before stored thread sees begins in
    rw (p.1, p.2) (stop_found g.D.Disk before c.walk_frames.new.archive c.args.image c.args.core.now.pieces.items stored thread c.args.core.now.process c.walk_frames.new.walk c.in_err-stop.field-0.0 finds)

pub returns-clause-finds : goal.returns-clause-finds
returns-clause-finds g c before stored thread sees begins =
    let finds = c.in_ok-stop.ensures.finds before stored thread sees begins in
    (finds.0, finds.1, finds.2, (finds.3, finds.4))
