use Rattle.intake.proofs.LifeLemmas.{numbers_stay}
use Rattle.intake.proofs.laws.numbers_stay_given.Goals as goal

pub returns : goal.returns
returns g c = numbers_stay g.D.Disk g.met.D.Disk.counts_now g.met.D.Disk.only_now
