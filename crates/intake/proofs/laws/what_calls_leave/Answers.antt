use Rattle.intake.proofs.LastsLemmas.{finish_lasts, delete_lasts, pin_lasts, label_lasts, upgrade_lasts, retire_lasts, refusals_last}
use Rattle.intake.proofs.laws.what_calls_leave.Goals as goal

pub returns-clause-finish : goal.returns-clause-finish
returns-clause-finish g c old new slot seq honest call = finish_lasts g.D.Disk old new honest slot seq call

pub returns-clause-delete : goal.returns-clause-delete
returns-clause-delete g c old new seq u honest call = delete_lasts g.D.Disk old new honest seq u call

pub returns-clause-pin : goal.returns-clause-pin
returns-clause-pin g c old new seq flag u honest call = pin_lasts g.D.Disk old new honest seq flag u call

pub returns-clause-retire : goal.returns-clause-retire
returns-clause-retire g c old new policy d honest call = retire_lasts g.D.Disk old new honest policy d call

pub returns-clause-refusals : goal.returns-clause-refusals
returns-clause-refusals g c old new f honest call = refusals_last g.D.Disk g.met.D.Disk.counts_now g.met.D.Disk.only_now old new f honest call

pub returns-clause-label : goal.returns-clause-label
returns-clause-label g c old new seq text u honest call = label_lasts g.D.Disk old new honest seq text u call

pub returns-clause-upgrade : goal.returns-clause-upgrade
returns-clause-upgrade g c old new u honest call = upgrade_lasts g.D.Disk old new honest u call
