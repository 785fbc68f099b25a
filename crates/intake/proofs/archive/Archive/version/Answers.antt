use Rattle.intake.proofs.LastingLemmas.{one_or_two}
use Rattle.intake.proofs.archive.Archive.version.Goals as goal

pub returns : goal.returns
returns g c = rw (← c.self.view_is) (c.if-self.false, c.version.ensures.value, one_or_two _ c.version.ensures.known)
