use Rattle.pruning.proofs.LawLemmas.{sparing}
use Rattle.pruning.proofs.laws.spares.Goals as goal

pub returns : goal.returns
returns c = sparing c.a_decision_is_one.ensures
