use Rattle.intake.proofs.LifeLemmas.{given_once}
use Rattle.intake.proofs.laws.numbers_are_given_once.Goals as goal

pub returns : goal.returns
returns g c = given_once g.D.Disk g.met.D.Disk.counts_now g.met.D.Disk.only_now
