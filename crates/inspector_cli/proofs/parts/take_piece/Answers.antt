use Rattle.inspector_cli.proofs.FeedLemmas.{fed_past}
use Rattle.inspector_cli.proofs.parts.take_piece.Goals as goal

pub returns-in-Ok-clause-takes : goal.returns-in-Ok-clause-takes
returns-in-Ok-clause-takes g c = λ begun so_far taken. rw c.in-Ok.is (c.fill_piece.ensures.takes begun so_far (rw c.in-Ok.is at taken))

pub returns-in_ok-skipped-in-Err-clause-takes : goal.returns-in_ok-skipped-in-Err-clause-takes
returns-in_ok-skipped-in-Err-clause-takes g c = λ begun so_far taken.
    let skips = c.in_ok-skipped-in-Err.ensures.skips in (
      skips.0,
      skips.1,
      skips.2,
      skips.3,
      skips.4,
      fed_past g.D.Disk begun c.args.archive.now c.args.slot so_far skips.0 c.in-Err.fault (rw c.in-Err.is at taken),
    )
