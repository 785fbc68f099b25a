use Rattle.std.proofs.Common.{◌∙◌, ℕ, List, IsTrue, ap, subst}
use Rattle.disk_model.specs.Disk.{ChangedIn}
use Rattle.disk_model.specs.Places.{overwritten, SameOutside}
use Rattle.disk_model.specs.MomentLaws.{changed_nowhere, started, goes_on}
use Rattle.journal_snapshot.specs.FillLaws.{fills_of, fills_then, quiet_fills}
use Rattle.journal_snapshot.specs.HoldLaws.{on_ok}
use Rattle.case_journal.proofs.SettleLemmas.{put_where_it_was}
use Rattle.case_journal.proofs.settling.write_again.Goals as goal

pub returns-in_err-read_at-clause-fills : goal.returns-in_err-read_at-clause-fills
returns-in_err-read_at-clause-fills g c =
    quiet_fills g.D.Disk c.args.place 1 c.args.disk.now c.read_at.new.self (g.met.D.Disk.only_now c.args.disk.now) c.read_at.ensures.time c.read_at.ensures.crash c.read_at.ensures.seen
    c.read_at.ensures.honesty c.read_at.ensures.size

pub returns-clause-fills : goal.returns-clause-fills
returns-clause-fills g c =
    let d = g.D.Disk in
    let mid = c.read_at.new.self in
    let new = c.write_at.new.self in
    let size = c.read_at.auto.into in
    fills_then d c.args.place 1 c.args.disk.now mid new
    (quiet_fills d c.args.place 1 c.args.disk.now mid (g.met.D.Disk.only_now c.args.disk.now) c.read_at.ensures.time c.read_at.ensures.crash c.read_at.ensures.seen c.read_at.ensures.honesty c.read_at.ensures.size)
    (fills_of d c.args.place 1 mid new (g.met.D.Disk.counts_now new)
    (λ honest. goes_on d mid mid new (ChangedIn c.args.place 1 (d.may_leave mid))
    (started d mid (ChangedIn c.args.place 1 (d.may_leave mid)) (λ b left. changed_nowhere c.args.place 1 (d.may_leave mid) b (g.met.D.Disk.only_now mid b left)))
    c.write_at.ensures.time (subst (λ (n : ℕ). (b : List ℕ) → d.may_leave new b → ChangedIn c.args.place n (d.may_leave mid) b) size (c.write_at.ensures.crash honest)))
    (subst (λ (n : ℕ). IsTrue (d.is_honest mid) → SameOutside c.args.place n (d.seen mid) (d.seen new)) size c.write_at.ensures.others) c.write_at.ensures.honesty c.write_at.ensures.size)

pub returns-clause-seen : goal.returns-clause-seen
returns-clause-seen g c honest =
    let d = g.D.Disk in
    on_ok c.write_at.result _ _
    (λ written. written (c.read_at.ensures.honesty ∙ honest)
    ∙ ap (λ b. overwritten b c.args.place c.read_at.new.into) (c.read_at.ensures.seen honest)
    ∙ put_where_it_was (d.seen c.args.disk.now) c.args.place 1 c.read_at.new.into c.read_at.auto.into (c.in_ok-read_at.ensures.bytes honest))
    c.write_at.ensures.written
