use Rattle.intake.proofs.LastingLemmas.{one_stands}
use Rattle.intake.proofs.laws.what_stands_is_one.Goals as goal

pub returns : goal.returns
returns c = one_stands
