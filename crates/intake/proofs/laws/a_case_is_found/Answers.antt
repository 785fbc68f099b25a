use Rattle.intake.proofs.LifeLemmas.{case_found}
use Rattle.intake.proofs.laws.a_case_is_found.Goals as goal

pub returns : goal.returns
returns g c = case_found g.D.Disk g.met.D.Disk.counts_now g.met.D.Disk.only_now
