use Rattle.retention.proofs.OneLemmas.{one_decision}
use Rattle.retention.proofs.laws.a_decision_is_one.Goals as goal

pub returns : goal.returns
returns c = one_decision
