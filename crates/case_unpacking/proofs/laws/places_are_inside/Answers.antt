use Rattle.case_unpacking.proofs.InsideLemmas.{are_inside}
use Rattle.case_unpacking.proofs.laws.places_are_inside.Goals as goal

pub returns : goal.returns
returns c = are_inside
