use Rattle.intake.proofs.MarkLemmas.{since}
use Rattle.intake.proofs.laws.nothing_else_is_left.Goals as goal

pub returns : goal.returns
returns g c m ns t left honest run early was = since g.D.Disk g.met.D.Disk.only_now t m ns early honest run left was
