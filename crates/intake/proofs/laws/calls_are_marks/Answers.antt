use Rattle.intake.proofs.MakingLemmas.{calls_are_marks}
use Rattle.intake.proofs.laws.calls_are_marks.Goals as goal

pub returns : goal.returns
returns g c = calls_are_marks g.D.Disk g.met.D.Disk.counts_now g.met.D.Disk.only_now
