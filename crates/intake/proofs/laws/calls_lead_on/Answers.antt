use Rattle.intake.proofs.InTurnLemmas.{leads_on, lead_in_turn}
use Rattle.intake.proofs.laws.calls_lead_on.Goals as goal

pub returns-clause-one : goal.returns-clause-one
returns-clause-one g c = leads_on g.D.Disk g.met.D.Disk.counts_now g.met.D.Disk.only_now

pub returns-clause-many : goal.returns-clause-many
returns-clause-many g c = lead_in_turn g.D.Disk g.met.D.Disk.counts_now g.met.D.Disk.only_now
