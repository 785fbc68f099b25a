use Rattle.intake.proofs.DurableLemmas.{durable_is}
use Rattle.intake.proofs.laws.a_state_tells_what_lasts.Goals as goal

pub returns : goal.returns
returns g c a = durable_is g.D.Disk.seen a
