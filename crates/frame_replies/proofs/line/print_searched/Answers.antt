use Rattle.frame_replies.proofs.SourceLineLemmas.{no_memory}
use Rattle.frame_replies.proofs.line.print_searched.Goals as goal

pub returns-in-Err-OutOfMemory : goal.returns-in-Err-OutOfMemory
returns-in-Err-OutOfMemory g c = (_, no_memory _ _ c.print_no_memory.ensures.outcome, c.print_no_memory.ensures.states)
