use Rattle.std.proofs.Common.{Option, subst, sym, arith}
use Rattle.disk_model.specs.Gathering.{IsTaken}
use Rattle.disk_model.specs.GatheringLaws.{Laws, put_through}
use Rattle.disk_model.specs.Gathers.{with_gathered}
use Rattle.disk_model.specs.declared.gathered.Gathered.{Gathered}
use Rattle.disk_model.proofs.gathering.take.Goals as goal

pub returns-in-None-clause-taken : goal.returns-in-None-clause-taken
returns-in-None-clause-taken g c =
    let m = g.met.D.Disk in
    let laws : Laws g.D.Disk = record { whole = m.whole; sized = m.sized; seen_bytes = m.seen_bytes; left_bytes = m.left_bytes; seen_may_stay = m.seen_may_stay; counts_now = m.counts_now; only_now = m.only_now } in
    let old = c.args.disk.now in
    let new = c.put.new.self in
    subst (λ (o : Option Gathered). IsTaken g.D.Disk c.put.result c.args.at c.args.from.now (with_gathered old o) (with_gathered new o)) (sym c.in-None.is)
    (put_through g.D.Disk laws old new c.put.result 0 c.args.at c.args.from.now (omega arith) c.put.ensures.put)
