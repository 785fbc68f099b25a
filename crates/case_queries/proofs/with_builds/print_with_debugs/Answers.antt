use Rattle.std.proofs.Common.{refl}
use Rattle.memory_replies.specs.Answers.{memory_reply}
use Rattle.case_queries.proofs.with_builds.print_with_debugs.Goals as goal

pub returns-in-Ok : goal.returns-in-Ok
returns-in-Ok g c = rw c.in-Ok.ensures.debugs at (rw c.in-Ok.ensures.cases at (rw c.in-Ok.ensures.attached at c.print_with_used.ensures))

pub returns-in-Err : goal.returns-in-Err
returns-in-Err g c = (memory_reply, refl, c.print_no.ensures)
