use Rattle.std.proofs.Common.{ap}
use Rattle.frame_replies.specs.Line.{found_answer}
use Rattle.frame_replies.proofs.SourceLineLemmas.{answered, no_memory}
use Rattle.frame_replies.proofs.line.print_in.Goals as goal

pub returns-in-Ok : goal.returns-in-Ok
returns-in-Ok g c =
    let (text, told, states) = c.print_found.ensures in
    (text, answered _ _ _ _ (ap found_answer c.in-Ok.ensures) told, states)

pub returns-in-Err : goal.returns-in-Err
returns-in-Err g c = (_, no_memory _ _ c.print_no_memory.ensures.outcome, c.print_no_memory.ensures.states)
