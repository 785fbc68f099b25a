use Rattle.case_unpacking.proofs.ApartLemmas.{are_kept}
use Rattle.case_unpacking.proofs.laws.plain_names_are_kept.Goals as goal

pub returns : goal.returns
returns c = are_kept
