use Rattle.intake.proofs.LastingLemmas.{labels_kept}
use Rattle.intake.proofs.laws.labels_are_of_version_two.Goals as goal

pub returns : goal.returns
returns c bytes x a = labels_kept bytes x a
