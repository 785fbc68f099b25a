use Rattle.std.proofs.lemmas.Result.{err_from_is_err_and}
use Rattle.journal_layout.specs.Layout.{half_length}
use Rattle.archive_care.specs.declared.faults.CopyFault.TheVariants.{OutOfMemory}
use Rattle.archive_care.proofs.CallLemmas.{early_call, late_call, opening_reads, plan_early, plan_step, right_early, right_step}
use Rattle.archive_care.proofs.PlanLemmas.{measured_size}
use Rattle.archive_care.proofs.copying.copy_archive.Goals as goal

pub returns-in_err-check_shape : goal.returns-in_err-check_shape
returns-in_err-check_shape g c =
    let o = c.open.ensures in
    let shape = c.args.wanted.shape in
    let size = g.N.Disk.size c.args.onto.now in
    let e = c.in_err-check_shape.field-0.0 in
    let p = err_from_is_err_and c.from_residual.result c.from_residual.ensures.1 in
    rw (p.1, p.2)
    (early_call g.D.Disk g.N.Disk c.args.wanted c.args.from.now c.open.new.disk c.args.onto.now e (right_early size shape e c.in_err-check_shape.ensures)
    (opening_reads g.D.Disk c.args.from.now c.open.new.disk (g.met.D.Disk.counts_now c.open.new.disk) o.any_moment o.seen o.disk.honesty o.disk.size) o.disk.later
    (λ s honest stands. right_step size shape s e c.in_err-check_shape.ensures))

pub returns-in_err-plan : goal.returns-in_err-plan
returns-in_err-plan g c =
    let o = c.open.ensures in
    let shape = c.args.wanted.shape in
    let size = g.N.Disk.size c.args.onto.now in
    let found = c.in-Ok.opened.journal.standing in
    let e = c.in_err-plan.field-0.0 in
    let p = err_from_is_err_and c.from_residual-in_err-plan.result c.from_residual-in_err-plan.ensures.1 in
    rw (p.1, p.2)
    (early_call g.D.Disk g.N.Disk c.args.wanted c.args.from.now c.open.new.disk c.args.onto.now e (plan_early shape found e c.in_err-plan.ensures)
    (opening_reads g.D.Disk c.args.from.now c.open.new.disk (g.met.D.Disk.counts_now c.open.new.disk) o.any_moment o.seen o.disk.honesty o.disk.size) o.disk.later
    (λ s honest stands. plan_step size shape found s e c.in_ok-check_shape.ensures.0 (c.in-Ok.ensures.found s honest stands) c.in_err-plan.ensures))

pub returns-in_err-buffer : goal.returns-in_err-buffer
returns-in_err-buffer g c =
    let o = c.open.ensures in
    let p = err_from_is_err_and c.from_residual-in_err-buffer.result c.from_residual-in_err-buffer.ensures.1 in
    rw (p.1, p.2)
    (early_call g.D.Disk g.N.Disk c.args.wanted c.args.from.now c.open.new.disk c.args.onto.now OutOfMemory tt
    (opening_reads g.D.Disk c.args.from.now c.open.new.disk (g.met.D.Disk.counts_now c.open.new.disk) o.any_moment o.seen o.disk.honesty o.disk.size) o.disk.later
    (λ s honest stands. tt))

pub returns : goal.returns
returns g c =
    let o = c.open.ensures in
    let s = c.in-Ok.opened.journal.standing in
    let plan = c.in_ok-plan.ensures in
    late_call g.D.Disk g.N.Disk c.args.wanted c.args.from.now c.open.new.disk c.put_copy.new.from c.args.onto.now c.put_copy.new.onto s c.put_copy.result
    (λ t honest stands. c.in-Ok.ensures.found t honest stands)
    plan.1 (measured_size s.version s c.in_ok-plan.plan.entries.items (half_length c.args.wanted.shape) c.in_ok-plan.plan.measure plan.2 plan.3)
    (opening_reads g.D.Disk c.args.from.now c.open.new.disk (g.met.D.Disk.counts_now c.open.new.disk) o.any_moment o.seen o.disk.honesty o.disk.size)
    o.disk.later c.put_copy.ensures.quiet c.put_copy.ensures.later c.put_copy.ensures.holds c.put_copy.ensures.disk c.put_copy.ensures.cause
