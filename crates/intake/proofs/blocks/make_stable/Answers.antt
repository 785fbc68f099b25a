use Rattle.intake.proofs.RestLemmas.{rests_quiet}
use Rattle.intake.proofs.blocks.make_stable.Goals as goal

pub returns-in_err-sync-clause-rests : goal.returns-in_err-sync-clause-rests
returns-in_err-sync-clause-rests g c j guards =
    rests_quiet g.D.Disk c.args.disk.now c.sync.new.self j (g.met.D.Disk.only_now c.args.disk.now) c.sync.ensures.size c.sync.ensures.honesty c.sync.ensures.seen c.sync.ensures.crash c.sync.ensures.time guards

pub returns-clause-rests : goal.returns-clause-rests
returns-clause-rests g c j guards =
    rests_quiet g.D.Disk c.args.disk.now c.sync.new.self j (g.met.D.Disk.only_now c.args.disk.now) c.sync.ensures.size c.sync.ensures.honesty c.sync.ensures.seen c.sync.ensures.crash c.sync.ensures.time guards
