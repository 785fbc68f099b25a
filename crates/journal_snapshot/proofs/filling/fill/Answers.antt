use Rattle.std.proofs.Common.{◌∙◌, ℕ, List, length, ap}
use Rattle.disk_model.specs.Disk.{ChangedIn}
use Rattle.disk_model.specs.Places.{part}
use Rattle.disk_model.specs.PartLaws.{part_overwritten}
use Rattle.disk_model.specs.MomentLaws.{changed_nowhere, started, goes_on}
use Rattle.journal_snapshot.specs.FillLaws.{fills_of}
use Rattle.journal_snapshot.specs.HoldLaws.{on_ok}
use Rattle.journal_snapshot.proofs.filling.fill.Goals as goal

pub returns-clause-fills : goal.returns-clause-fills
returns-clause-fills g c =
    let d = g.D.Disk in
    let old = c.args.disk.now in
    let new = c.write_at.new.self in
    let n = length c.args.bytes.now in
    fills_of d c.args.at n old new (g.met.D.Disk.counts_now new)
    (λ honest. goes_on d old old new (ChangedIn c.args.at n (d.may_leave old))
    (started d old (ChangedIn c.args.at n (d.may_leave old)) (λ b left. changed_nowhere c.args.at n (d.may_leave old) b (g.met.D.Disk.only_now old b left)))
    c.write_at.ensures.time (c.write_at.ensures.crash honest))
    c.write_at.ensures.others c.write_at.ensures.honesty c.write_at.ensures.size

pub returns-clause-there : goal.returns-clause-there
returns-clause-there g c honest =
    on_ok c.write_at.result _ _
    (λ written. ap (λ (l : List ℕ). part l c.args.at (length c.args.bytes.now)) (written honest)
    ∙ part_overwritten (g.D.Disk.seen c.args.disk.now) c.args.at c.args.bytes.now (rw (g.met.D.Disk.whole c.args.disk.now honest) c.requires))
    c.write_at.ensures.written
