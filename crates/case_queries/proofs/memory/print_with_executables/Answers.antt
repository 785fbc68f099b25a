use Rattle.std.proofs.Common.{refl}
use Rattle.memory_replies.specs.Answers.{memory_reply}
use Rattle.case_queries.proofs.memory.print_with_executables.Goals as goal

pub returns-in-Err : goal.returns-in-Err
returns-in-Err g c image by = (memory_reply, refl, c.print_no.ensures)
