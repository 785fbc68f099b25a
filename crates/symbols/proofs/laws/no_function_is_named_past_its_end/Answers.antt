use Rattle.symbols.proofs.Naming.{named_not_ended, named_not_below}
use Rattle.symbols.proofs.laws.no_function_is_named_past_its_end.Goals as goal

pub returns-clause-ended : goal.returns-clause-ended
returns-clause-ended c = named_not_ended

pub returns-clause-below : goal.returns-clause-below
returns-clause-below c = named_not_below
