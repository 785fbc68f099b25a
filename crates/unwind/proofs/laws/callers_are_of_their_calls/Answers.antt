use Rattle.unwind.proofs.Turns.{no_next, of_the_call}
use Rattle.unwind.proofs.laws.callers_are_of_their_calls.Goals as goal

pub returns-clause-called : goal.returns-clause-called
returns-clause-called c = of_the_call

pub returns-clause-no_next : goal.returns-clause-no_next
returns-clause-no_next c = no_next
