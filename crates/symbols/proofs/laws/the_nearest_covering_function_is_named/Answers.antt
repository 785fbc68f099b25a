use Rattle.symbols.proofs.Naming.{named_is, named_only}
use Rattle.symbols.proofs.laws.the_nearest_covering_function_is_named.Goals as goal

pub returns-clause-named : goal.returns-clause-named
returns-clause-named c = named_is

pub returns-clause-only : goal.returns-clause-only
returns-clause-only c = named_only
