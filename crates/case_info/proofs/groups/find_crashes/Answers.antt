use Rattle.std.proofs.Common.{Ok}
use Rattle.case_info.specs.Groups.{FindsCrashes}
use Rattle.case_info.proofs.GatherLemmas.{with_new}
use Rattle.case_info.proofs.groups.find_crashes.Goals as goal

pub returns-in-Ok : goal.returns-in-Ok
returns-in-Ok g c = (
  Ok c.in-Ok.archive,
  c.in-Ok.ensures,
  with_new (λ found new. FindsCrashes g.D.Disk c.in-Ok.archive c.args.wanted.now c.args.case found new) c.crashes_in.new.archive c.crashes_in.result c.crashes_in.ensures,
)
