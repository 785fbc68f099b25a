use Rattle.std.proofs.Common.{◌≡◌, ◌∙◌, ◌∷◌, [], ℕ, List, slice_index, sym, ap, arith}
use Rattle.disk_model.specs.Places.{overwritten}
use Rattle.disk_model.specs.MomentLaws.{stays, then_again}
use Rattle.journal_layout.specs.Stands.{Stands}
use Rattle.journal_snapshot.specs.FillLaws.{fills_of, fills_then, quiet_fills}
use Rattle.journal_snapshot.specs.HoldLaws.{read_place, closing_moments, holds_on, reads_closed, closed_in_other_half, closed_holds}
use Rattle.journal_snapshot.proofs.closing.close_half.Goals as goal

pub returns-in_err-read_at-clause-any_moment : goal.returns-in_err-read_at-clause-any_moment
returns-in_err-read_at-clause-any_moment g c s place honest holds =
    stays g.D.Disk c.args.disk.now c.read_at.new.self (λ b. Stands b s) (λ b left. holds.stands b (g.met.D.Disk.only_now c.args.disk.now b left)) c.read_at.ensures.time
    (λ b may. holds.stands b (c.read_at.ensures.crash honest b may))

pub returns-else-gate-clause-any_moment : goal.returns-else-gate-clause-any_moment
returns-else-gate-clause-any_moment g c s place honest holds =
    stays g.D.Disk c.args.disk.now c.read_at.new.self (λ b. Stands b s) (λ b left. holds.stands b (g.met.D.Disk.only_now c.args.disk.now b left)) c.read_at.ensures.time
    (λ b may. holds.stands b (c.read_at.ensures.crash honest b may))

pub returns-else-gate-clause-closed : goal.returns-else-gate-clause-closed
returns-else-gate-clause-closed g c s place honest holds =
    let d = g.D.Disk in
    let read = read_place (d.seen c.args.disk.now) c.args.start c.read_at.new.into (c.in_ok-read_at.ensures.bytes honest) in
    reads_closed d s c.args.disk.now c.read_at.new.self holds (c.read_at.ensures.crash honest)
    (λ opened. c.if-gate.false (read ∙ ap (slice_index (d.seen c.args.disk.now)) place ∙ opened))

pub returns-in_err-write_stable-clause-fills : goal.returns-in_err-write_stable-clause-fills
returns-in_err-write_stable-clause-fills g c =
    let d = g.D.Disk in
    let mid = c.read_at.new.self in
    let new = c.write_stable.new.disk in
    fills_then d c.args.start 1 c.args.disk.now mid new
    (quiet_fills d c.args.start 1 c.args.disk.now mid (g.met.D.Disk.only_now c.args.disk.now) c.read_at.ensures.time c.read_at.ensures.crash c.read_at.ensures.seen c.read_at.ensures.honesty c.read_at.ensures.size)
    (fills_of d c.args.start 1 mid new (g.met.D.Disk.counts_now new) c.write_stable.ensures.any_moment c.write_stable.ensures.others c.write_stable.ensures.honesty c.write_stable.ensures.size)

pub returns-in_ok-write_stable-clause-fills : goal.returns-in_ok-write_stable-clause-fills
returns-in_ok-write_stable-clause-fills g c =
    let d = g.D.Disk in
    let mid = c.read_at.new.self in
    let new = c.write_stable.new.disk in
    fills_then d c.args.start 1 c.args.disk.now mid new
    (quiet_fills d c.args.start 1 c.args.disk.now mid (g.met.D.Disk.only_now c.args.disk.now) c.read_at.ensures.time c.read_at.ensures.crash c.read_at.ensures.seen c.read_at.ensures.honesty c.read_at.ensures.size)
    (fills_of d c.args.start 1 mid new (g.met.D.Disk.counts_now new) c.write_stable.ensures.any_moment c.write_stable.ensures.others c.write_stable.ensures.honesty c.write_stable.ensures.size)

pub returns-in_err-write_stable-clause-any_moment : goal.returns-in_err-write_stable-clause-any_moment
returns-in_err-write_stable-clause-any_moment g c s place honest holds =
    let d = g.D.Disk in
    let old = c.args.disk.now in
    let mid = c.read_at.new.self in
    let new = c.write_stable.new.disk in
    let now = c.read_at.ensures.honesty ∙ honest in
    let kept = holds_on d s old mid (c.read_at.ensures.seen honest) (c.read_at.ensures.crash honest) holds in
    let read = read_place (d.seen old) c.args.start c.read_at.new.into (c.in_ok-read_at.ensures.bytes honest) in
    let opened : slice_index (d.seen mid) c.args.start ≡ 165 =
    ap (λ (b : List ℕ). slice_index b c.args.start) (c.read_at.ensures.seen honest) ∙ sym read ∙ c.if-gate.true in
    then_again d old mid new (λ b. Stands b s)
    (stays d old mid (λ b. Stands b s) (λ b left. holds.stands b (g.met.D.Disk.only_now old b left)) c.read_at.ensures.time (λ b may. holds.stands b (c.read_at.ensures.crash honest b may)))
    (closing_moments d s mid new c.args.start place now kept (λ b may. g.met.D.Disk.sized mid b now may) (rw c.read_at.ensures.size c.requires) opened
    (fills_of d c.args.start 1 mid new (g.met.D.Disk.counts_now new) c.write_stable.ensures.any_moment c.write_stable.ensures.others c.write_stable.ensures.honesty c.write_stable.ensures.size))

pub returns-in_ok-write_stable-clause-any_moment : goal.returns-in_ok-write_stable-clause-any_moment
returns-in_ok-write_stable-clause-any_moment g c s place honest holds =
    let d = g.D.Disk in
    let old = c.args.disk.now in
    let mid = c.read_at.new.self in
    let new = c.write_stable.new.disk in
    let now = c.read_at.ensures.honesty ∙ honest in
    let kept = holds_on d s old mid (c.read_at.ensures.seen honest) (c.read_at.ensures.crash honest) holds in
    let read = read_place (d.seen old) c.args.start c.read_at.new.into (c.in_ok-read_at.ensures.bytes honest) in
    let opened : slice_index (d.seen mid) c.args.start ≡ 165 =
    ap (λ (b : List ℕ). slice_index b c.args.start) (c.read_at.ensures.seen honest) ∙ sym read ∙ c.if-gate.true in
    then_again d old mid new (λ b. Stands b s)
    (stays d old mid (λ b. Stands b s) (λ b left. holds.stands b (g.met.D.Disk.only_now old b left)) c.read_at.ensures.time (λ b may. holds.stands b (c.read_at.ensures.crash honest b may)))
    (closing_moments d s mid new c.args.start place now kept (λ b may. g.met.D.Disk.sized mid b now may) (rw c.read_at.ensures.size c.requires) opened
    (fills_of d c.args.start 1 mid new (g.met.D.Disk.counts_now new) c.write_stable.ensures.any_moment c.write_stable.ensures.others c.write_stable.ensures.honesty c.write_stable.ensures.size))

pub returns-in_ok-write_stable-clause-closed : goal.returns-in_ok-write_stable-clause-closed
returns-in_ok-write_stable-clause-closed g c s place honest holds =
    let d = g.D.Disk in
    let old = c.args.disk.now in
    let mid = c.read_at.new.self in
    let new = c.write_stable.new.disk in
    let now = c.read_at.ensures.honesty ∙ honest in
    let kept = holds_on d s old mid (c.read_at.ensures.seen honest) (c.read_at.ensures.crash honest) holds in
    let stable = c.in_ok-write_stable.ensures.stable now in
    closed_in_other_half d s new (d.seen mid) (kept.stands (d.seen mid) (g.met.D.Disk.seen_may_stay mid now))
    (let long = g.met.D.Disk.whole mid now in let size = c.read_at.ensures.size in let within = c.requires in omega arith)
    stable.0 (stable.1 ∙ ap (λ (p : ℕ). overwritten (d.seen mid) p (0 ∷ [])) place)

pub returns-else-gate-clause-holds : goal.returns-else-gate-clause-holds
returns-else-gate-clause-holds g c s place honest holds =
    holds_on g.D.Disk s c.args.disk.now c.read_at.new.self (c.read_at.ensures.seen honest) (c.read_at.ensures.crash honest) holds

pub returns-in_ok-write_stable-clause-holds : goal.returns-in_ok-write_stable-clause-holds
returns-in_ok-write_stable-clause-holds g c s place honest holds =
    let d = g.D.Disk in
    let old = c.args.disk.now in
    let mid = c.read_at.new.self in
    let new = c.write_stable.new.disk in
    let now = c.read_at.ensures.honesty ∙ honest in
    let kept = holds_on d s old mid (c.read_at.ensures.seen honest) (c.read_at.ensures.crash honest) holds in
    let stable = c.in_ok-write_stable.ensures.stable now in
    closed_holds d s new (d.seen mid) (kept.stands (d.seen mid) (g.met.D.Disk.seen_may_stay mid now))
    (let long = g.met.D.Disk.whole mid now in let size = c.read_at.ensures.size in let within = c.requires in omega arith)
    stable.0 (stable.1 ∙ ap (λ (p : ℕ). overwritten (d.seen mid) p (0 ∷ [])) place)
