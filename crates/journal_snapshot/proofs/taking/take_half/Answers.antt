use Rattle.std.proofs.Common.{◌⊎◌, ℕ, List, subst}
use Rattle.disk_model.specs.Disk.{ChangedIn}
use Rattle.disk_model.specs.Places.{SameOutside}
use Rattle.disk_model.specs.MomentLaws.{weakened}
use Rattle.journal_layout.specs.Stands.{Stands}
use Rattle.journal_layout.specs.Rewriting.{rewritten}
use Rattle.journal_snapshot.specs.FillLaws.{fills_of}
use Rattle.journal_snapshot.specs.HoldLaws.{taking_stands, taken_stands, on_ok}
use Rattle.journal_snapshot.proofs.taking.take_half.Goals as goal

pub returns-clause-fills : goal.returns-clause-fills
returns-clause-fills g c =
    fills_of g.D.Disk c.args.start 1 c.args.disk.now c.write_stable.new.disk (g.met.D.Disk.counts_now c.write_stable.new.disk)
    c.write_stable.ensures.any_moment c.write_stable.ensures.others c.write_stable.ensures.honesty c.write_stable.ensures.size

pub returns-clause-any_moment : goal.returns-clause-any_moment
returns-clause-any_moment g c s f place honest ready =
    let d = g.D.Disk in
    let old = c.args.disk.now in
    weakened d old c.write_stable.new.disk (ChangedIn c.args.start 1 (d.may_leave old)) (λ (b : List ℕ). Stands b s ⊎ Stands b (rewritten s f))
    (λ b changed. taking_stands s f (d.seen old) b ready.stands ready.may ready.snapshot
    (subst (λ (p : ℕ). SameOutside p 1 (d.seen old) b) place (subst (λ (x : List ℕ). SameOutside c.args.start 1 x b) (ready.settled changed.0 changed.1) changed.2)))
    (c.write_stable.ensures.any_moment honest)

pub returns-clause-taken : goal.returns-clause-taken
returns-clause-taken g c s f place honest ready =
    on_ok c.write_stable.result _ _
    (λ after. taken_stands g.D.Disk s f c.args.disk.now c.write_stable.new.disk c.args.start place ready after.0 after.1
    (rw (g.met.D.Disk.whole c.args.disk.now honest) c.requires))
    (c.write_stable.ensures.stable honest)
