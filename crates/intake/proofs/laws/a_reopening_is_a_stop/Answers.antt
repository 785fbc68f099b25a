use Rattle.intake.proofs.LifeLemmas.{left_by_a_stop}
use Rattle.intake.proofs.laws.a_reopening_is_a_stop.Goals as goal

pub returns : goal.returns
returns g c = left_by_a_stop g.D.Disk g.met.D.Disk.counts_now g.met.D.Disk.only_now
