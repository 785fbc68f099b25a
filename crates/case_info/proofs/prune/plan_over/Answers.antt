use Rattle.std.proofs.Common.{Ok}
use Rattle.case_info.proofs.prune.plan_over.Goals as goal

pub returns-in-Ok : goal.returns-in-Ok
returns-in-Ok g c = (Ok c.in-Ok.archive, c.in-Ok.ensures, (c.plan_in-planned.new.archive, c.close-disk.ensures.disk, c.plan_in-planned.ensures))
