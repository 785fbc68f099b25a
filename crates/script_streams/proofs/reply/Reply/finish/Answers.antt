use Rattle.script_streams.proofs.PrintingLemmas.{all_taken, told_nothing}
use Rattle.script_streams.proofs.reply.Reply.finish.Goals as goal

pub returns-then-self-clause-delivered : goal.returns-then-self-clause-delivered
returns-then-self-clause-delivered g c = λ start count name told so_far.
    let now = told_nothing _ _ _ _ told (c.flush.ensures.states start count name told so_far) in
    (now.out, now.rest, now.split, now.appended, now.blamed c.if-self.true)

pub returns-else-self-clause-delivered : goal.returns-else-self-clause-delivered
returns-else-self-clause-delivered g c = λ start count name told so_far.
    let now = told_nothing _ _ _ _ told (c.flush.ensures.states start count name told so_far) in
    all_taken _ _ _ _ told now c.if-self.false c.flush.ensures.emptied
