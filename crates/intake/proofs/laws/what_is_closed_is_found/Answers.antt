use Rattle.intake.specs.Durable.{durable_of}
use Rattle.intake.proofs.laws.what_is_closed_is_found.Goals as goal

pub returns : goal.returns
returns g c a d limit r honest on closed opened = opened.found_again (durable_of g.D.Disk.seen a) honest (closed.stands on honest)
