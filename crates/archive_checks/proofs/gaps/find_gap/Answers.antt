use Rattle.std.proofs.Common.{◌∙◌, IsTrue, subst, sym}
use Rattle.intake.specs.QuietLaws.{quiet_then}
use Rattle.archive_checks.proofs.GapLemmas.{both_said, opening_reads}
use Rattle.archive_checks.proofs.gaps.find_gap.Goals as goal

pub returns-in_err-a-clause-quiet : goal.returns-in_err-a-clause-quiet
returns-in_err-a-clause-quiet g c =
    let o = c.in_ok-journal.ensures in
    quiet_then g.D.Disk c.args.disk.now c.open.new.disk c.read_half.new.disk
    (opening_reads g.D.Disk c.args.disk.now c.open.new.disk (g.met.D.Disk.counts_now c.open.new.disk) o.any_moment o.seen o.disk.honesty o.disk.size)
    c.in_err-a.ensures.quiet

pub returns-in_err-b-clause-quiet : goal.returns-in_err-b-clause-quiet
returns-in_err-b-clause-quiet g c =
    let o = c.in_ok-journal.ensures in
    quiet_then g.D.Disk c.args.disk.now c.read_half.new.disk c.read_half-2.new.disk
    (quiet_then g.D.Disk c.args.disk.now c.open.new.disk c.read_half.new.disk
    (opening_reads g.D.Disk c.args.disk.now c.open.new.disk (g.met.D.Disk.counts_now c.open.new.disk) o.any_moment o.seen o.disk.honesty o.disk.size)
    c.in_ok-a.ensures.quiet)
    c.in_err-b.ensures.quiet

pub returns-clause-gap : goal.returns-clause-gap
returns-clause-gap g c honest s stands =
    let o = c.in_ok-journal.ensures in
    let still = subst IsTrue (sym o.disk.honesty) honest in
    let later = subst IsTrue (sym c.in_ok-a.ensures.quiet.honesty) still in
    both_said (g.D.Disk.seen c.args.disk.now) (g.D.Disk.seen c.open.new.disk) (g.D.Disk.seen c.read_half.new.disk) s c.in_ok-journal.field-0.journal.standing c.shape-shape.result c.in_ok-a.a c.in_ok-b.b c.next_seq.result c.gap_between.result
    (o.seen honest)
    (c.in_ok-a.ensures.quiet.seen still ∙ o.seen honest)
    (o.found s honest stands)
    c.shape-shape.ensures
    c.next_seq.ensures.value
    (c.in_ok-a.ensures.said still)
    (c.in_ok-b.ensures.said later)
    c.gap_between.ensures

pub returns-clause-quiet : goal.returns-clause-quiet
returns-clause-quiet g c =
    let o = c.in_ok-journal.ensures in
    quiet_then g.D.Disk c.args.disk.now c.read_half.new.disk c.read_half-2.new.disk
    (quiet_then g.D.Disk c.args.disk.now c.open.new.disk c.read_half.new.disk
    (opening_reads g.D.Disk c.args.disk.now c.open.new.disk (g.met.D.Disk.counts_now c.open.new.disk) o.any_moment o.seen o.disk.honesty o.disk.size)
    c.in_ok-a.ensures.quiet)
    c.in_ok-b.ensures.quiet
