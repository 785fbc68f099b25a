use Rattle.std.proofs.Common.{Ok}
use Rattle.case_info.specs.Gathering.{Gathers}
use Rattle.case_info.proofs.GatherLemmas.{with_new}
use Rattle.case_info.proofs.gathering.gather_on.Goals as goal

pub returns-in-Ok : goal.returns-in-Ok
returns-in-Ok g c = (Ok c.in-Ok.archive, c.in-Ok.ensures, with_new (λ gathered new. Gathers g.D.Disk c.in-Ok.archive gathered new) c.gather.new.archive c.gather.result c.gather.ensures)
