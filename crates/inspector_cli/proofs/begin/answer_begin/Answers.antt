use Rattle.std.proofs.Common.{refl}
use Rattle.script_streams.specs.Replies.{no_reply}
use Rattle.inspector_cli.proofs.begin.answer_begin.Goals as goal

pub returns-in-Err : goal.returns-in-Err
returns-in-Err g c = rw c.in-Err.is (no_reply c.in-Err.reason.now, (refl, refl, refl), c.print_no.ensures)
