use Rattle.intake.proofs.LastsLemmas.{upgrade_leaves}
use Rattle.intake.proofs.laws.an_upgrade_leaves_the_cases.Goals as goal

pub returns : goal.returns
returns g c old new r honest one settled call = upgrade_leaves g.D.Disk old new r g.met.D.Disk.seen_may_stay honest one settled call
