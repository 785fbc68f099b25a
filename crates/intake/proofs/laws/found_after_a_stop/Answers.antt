use Rattle.intake.proofs.MarkLemmas.{found_since}
use Rattle.intake.proofs.laws.found_after_a_stop.Goals as goal

pub returns : goal.returns
returns g c m ns honest settled run = found_since g.D.Disk g.met.D.Disk.only_now m ns honest settled run
