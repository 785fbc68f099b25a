use Rattle.crash_signatures.proofs.TurnLemmas.{are_turned}
use Rattle.crash_signatures.proofs.laws.a_recursion_is_turned.Goals as goal

pub returns : goal.returns
returns c = are_turned
