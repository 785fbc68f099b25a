use Rattle.std.proofs.Common.{Ok}
use Rattle.case_info.proofs.unpacking.unpacking_on.Goals as goal

pub returns-in-Ok : goal.returns-in-Ok
returns-in-Ok g c = (Ok c.in-Ok.archive, c.in-Ok.ensures, c.unpacking_in.ensures)
