use Rattle.pruning.proofs.LawLemmas.{done}
use Rattle.pruning.proofs.laws.prune_is_done.Goals as goal

pub returns : goal.returns
returns c = done c.what_goes_and_what_stays.ensures.old_stay c.what_goes_and_what_stays.ensures.spare_stay
