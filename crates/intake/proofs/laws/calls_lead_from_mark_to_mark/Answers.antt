use Rattle.intake.proofs.MarkLemmas.{stays_lead, finish_leads, delete_leads, pin_leads, label_leads, upgrade_leads, retire_leads}
use Rattle.intake.proofs.laws.calls_lead_from_mark_to_mark.Goals as goal

pub returns-clause-stays : goal.returns-clause-stays
returns-clause-stays g c old new before stays = stays_lead g.D.Disk g.met.D.Disk.counts_now g.met.D.Disk.only_now old new before stays

pub returns-clause-finish : goal.returns-clause-finish
returns-clause-finish g c old new slot r call = finish_leads g.D.Disk g.met.D.Disk.counts_now g.met.D.Disk.only_now old new slot r call

pub returns-clause-delete : goal.returns-clause-delete
returns-clause-delete g c old new seq r call = delete_leads g.D.Disk g.met.D.Disk.counts_now g.met.D.Disk.only_now old new seq r call

pub returns-clause-pin : goal.returns-clause-pin
returns-clause-pin g c old new seq flag r call = pin_leads g.D.Disk g.met.D.Disk.counts_now g.met.D.Disk.only_now old new seq flag r call

pub returns-clause-retire : goal.returns-clause-retire
returns-clause-retire g c old new policy r call = retire_leads g.D.Disk g.met.D.Disk.counts_now g.met.D.Disk.only_now old new policy r call

pub returns-clause-label : goal.returns-clause-label
returns-clause-label g c old new seq text r call = label_leads g.D.Disk g.met.D.Disk.counts_now g.met.D.Disk.only_now old new seq text r call

pub returns-clause-upgrade : goal.returns-clause-upgrade
returns-clause-upgrade g c old new r call = upgrade_leads g.D.Disk g.met.D.Disk.counts_now g.met.D.Disk.only_now old new r call
