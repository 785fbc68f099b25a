use Rattle.case_unpacking.proofs.ApartLemmas.{are_apart}
use Rattle.case_unpacking.proofs.laws.places_are_apart.Goals as goal

pub returns : goal.returns
returns c = are_apart
