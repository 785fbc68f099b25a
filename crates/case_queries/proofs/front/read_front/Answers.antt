use Rattle.std.proofs.Common.{ap, length, arith}
use Rattle.std.proofs.lemmas.Result.{err_from_is_err_and}
use Rattle.case_queries.proofs.FrontLemmas.{read_first, read_next, refused_first, refused_next, read_enough}
use Rattle.case_queries.proofs.front.read_front.Goals as goal

pub loop-want-init : goal.loop-want-init
loop-want-init g c =
    read_first g.D.Disk c.args.archive.now c.read_up_to.new.archive c.args.seq c.args.size c.min.result c.new-image.result.items c.read_up_to.new.image.items
    (ap length c.new-image.ensures.items) c.in_ok-read_up_to.ensures.read (omega (arith, c.in_ok-read_up_to.ensures.long, c.min.ensures)) (omega (arith, c.in_ok-read_up_to.ensures.long, c.min.ensures))

pub returns-in_err-read_up_to : goal.returns-in_err-read_up_to
returns-in_err-read_up_to g c =
    let p = err_from_is_err_and c.from_residual.result c.from_residual.ensures.1 in
    rw (p.1, p.2)
    (refused_first g.D.Disk c.args.archive.now c.read_up_to.new.archive c.args.seq c.args.size c.min.result c.new-image.result.items c.read_up_to.new.image.items
    c.in_err-read_up_to.field-0.0 (g.met.D.Disk.only_now c.args.archive.now.disk) c.requires c.in_err-read_up_to.ensures.read)

pub loop-want-preserved : goal.loop-want-preserved
loop-want-preserved g c =
    read_next g.D.Disk c.args.archive.now c.loop-want.archive c.read_up_to-in-loop-want.new.archive c.args.seq c.args.size c.next_end-end.result
    c.loop-want.image.items c.read_up_to-in-loop-want.new.image.items c.loop-want.invariant c.in_ok-read_up_to-2.ensures.read
    (omega (arith, c.in_ok-read_up_to-2.ensures.long, c.next_end-end.ensures.most))

pub returns-in_err-read_up_to-2 : goal.returns-in_err-read_up_to-2
returns-in_err-read_up_to-2 g c =
    let p = err_from_is_err_and c.from_residual-in_err-read_up_to-2.result c.from_residual-in_err-read_up_to-2.ensures.1 in
    rw (p.1, p.2)
    (refused_next g.D.Disk c.args.archive.now c.loop-want.archive c.read_up_to-in-loop-want.new.archive c.args.seq c.args.size c.next_end-end.result
    c.loop-want.image.items c.read_up_to-in-loop-want.new.image.items c.in_err-read_up_to-2.field-0.0 c.requires c.loop-want.invariant c.in_err-read_up_to-2.ensures.read)

pub returns : goal.returns
returns g c =
    read_enough g.D.Disk c.args.archive.now c.loop-want.archive c.args.seq c.args.size c.args.want c.loop-want.image c.requires c.loop-want.invariant
    (rw c.deref.ensures.value at (c.is_enough.ensures.enough c.loop-want-test.false))
