use Rattle.case_info.proofs.GatherLemmas.{planned_by}
use Rattle.case_info.proofs.prune.plan_in.Goals as goal

pub returns : goal.returns
returns g c = planned_by g.D.Disk c.args.policy.now c.args.archive.now c.gather.new.archive c.in_ok-gathered.gathered c.planned.result c.in_ok-gathered.ensures c.planned.ensures
