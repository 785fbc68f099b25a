use Rattle.pruning.proofs.LawLemmas.{exactly}
use Rattle.pruning.proofs.laws.prunes_exactly.Goals as goal

pub returns : goal.returns
returns c = exactly c.a_decision_is_one.ensures
