use Rattle.std.proofs.Common.{◌≡◌, ◌⊎◌, inl, inr, ◌+◌, ◌∙◌, length, slice_index, sym, ap, arith}
use Rattle.disk_model.specs.MomentLaws.{then_again}
use Rattle.disk_model.specs.PartLaws.{part_after, place_before}
use Rattle.journal_layout.specs.Layout.{half_length}
use Rattle.journal_layout.specs.Stands.{Stands}
use Rattle.journal_layout.specs.Rewriting.{rewritten}
use Rattle.journal_snapshot.specs.FillLaws.{fills_wider, fills_then}
use Rattle.journal_snapshot.specs.Halves.{half_bytes}
use Rattle.journal_snapshot.specs.DoubtLaws.{front_differs, settled_differs, gate_differs, behind_differs}
use Rattle.journal_snapshot.proofs.HalfLemmas.{bytes_within}
use Rattle.journal_snapshot.proofs.RewriteLemmas.{half_filled, half_ready, filled_moments, on_ok}
use Rattle.journal_snapshot.proofs.rewriting.rewrite.Goals as goal

pub returns-in_err-close_half-clause-fills : goal.returns-in_err-close_half-clause-fills
returns-in_err-close_half-clause-fills g c =
    fills_wider g.D.Disk c.args.target.start 1 c.args.target.start (1 + length (half_bytes c.args.target c.args.change.now c.args.entries.now)) c.args.disk.now c.close_half.new.disk (omega arith) (omega arith) c.close_half.ensures.fills

pub returns-in_err-fill_half-clause-fills : goal.returns-in_err-fill_half-clause-fills
returns-in_err-fill_half-clause-fills g c =
    half_filled g.D.Disk c.args.disk.now c.close_half.new.disk c.fill_half.new.disk c.args.target.start (length (half_bytes c.args.target c.args.change.now c.args.entries.now)) c.close_half.ensures.fills c.fill_half.ensures.fills

pub returns-in_err-fill_half-clause-any_moment : goal.returns-in_err-fill_half-clause-any_moment
returns-in_err-fill_half-clause-any_moment g c s f is honest holds =
    filled_moments g.D.Disk s f c.args.target c.args.change.now c.args.entries.now is c.args.disk.now c.close_half.new.disk c.fill_half.new.disk
    (c.close_half.ensures.fills.honesty ∙ honest) (c.close_half.ensures.any_moment s is.place honest holds) (c.in_ok-close_half.ensures.closed s is.place honest holds) c.fill_half.ensures.fills

pub returns-clause-fills : goal.returns-clause-fills
returns-clause-fills g c =
    let n = length (half_bytes c.args.target c.args.change.now c.args.entries.now) in
    fills_then g.D.Disk c.args.target.start (1 + n) c.args.disk.now c.fill_half.new.disk c.take_half.new.disk
    (half_filled g.D.Disk c.args.disk.now c.close_half.new.disk c.fill_half.new.disk c.args.target.start n c.close_half.ensures.fills c.fill_half.ensures.fills)
    (fills_wider g.D.Disk c.args.target.start 1 c.args.target.start (1 + n) c.fill_half.new.disk c.take_half.new.disk (omega arith) (omega arith) c.take_half.ensures.fills)

pub returns-clause-any_moment : goal.returns-clause-any_moment
returns-clause-any_moment g c s f is honest holds =
    let mid = c.close_half.ensures.fills.honesty ∙ honest in
    let now = c.fill_half.ensures.fills.honesty ∙ mid in
    let snapshot_end = c.in_ok-close_half.ensures.closed s is.place honest holds in
    then_again g.D.Disk c.args.disk.now c.fill_half.new.disk c.take_half.new.disk (λ b. Stands b s ⊎ Stands b (rewritten s f))
    (filled_moments g.D.Disk s f c.args.target c.args.change.now c.args.entries.now is c.args.disk.now c.close_half.new.disk c.fill_half.new.disk mid
    (c.close_half.ensures.any_moment s is.place honest holds) snapshot_end c.fill_half.ensures.fills)
    (c.take_half.ensures.any_moment s f is.place now
    (half_ready g.D.Disk s f c.args.target c.args.change.now c.args.entries.now is c.close_half.new.disk c.fill_half.new.disk mid snapshot_end c.fill_half.ensures.fills (g.met.D.Disk.seen_may_stay c.fill_half.new.disk now)
    (c.in_ok-fill_half.ensures.there mid) (c.in_ok-fill_half.ensures.settled mid)))

pub returns-clause-taken : goal.returns-clause-taken
returns-clause-taken g c s f is honest holds =
    let mid = c.close_half.ensures.fills.honesty ∙ honest in
    let now = c.fill_half.ensures.fills.honesty ∙ mid in
    let snapshot_end = c.in_ok-close_half.ensures.closed s is.place honest holds in
    c.take_half.ensures.taken s f is.place now
    (half_ready g.D.Disk s f c.args.target c.args.change.now c.args.entries.now is c.close_half.new.disk c.fill_half.new.disk mid snapshot_end c.fill_half.ensures.fills (g.met.D.Disk.seen_may_stay c.fill_half.new.disk now)
    (c.in_ok-fill_half.ensures.there mid) (c.in_ok-fill_half.ensures.settled mid))

pub returns-clause-written : goal.returns-clause-written
returns-clause-written g c honest =
    let mid = c.close_half.ensures.fills.honesty ∙ honest in
    let now = c.fill_half.ensures.fills.honesty ∙ mid in
    let n = length (half_bytes c.args.target c.args.change.now c.args.entries.now) in
    on_ok c.take_half.result _
    (part_after c.args.target.start 1 (g.D.Disk.seen c.fill_half.new.disk) (g.D.Disk.seen c.take_half.new.disk) (c.take_half.ensures.fills.others now) (c.args.target.start + 1) n (omega arith)
    ∙ c.in_ok-fill_half.ensures.there mid)

pub returns-in_err-close_half-clause-doubt : goal.returns-in_err-close_half-clause-doubt
returns-in_err-close_half-clause-doubt g c s f is honest holds =
    inl (gate_differs g.D.Disk s.shape c.args.disk.now c.close_half.new.disk honest (front_differs g.D.Disk s.shape c.args.disk.now (λ p. ⊥) holds.front) c.args.target.start c.close_half.ensures.fills)

pub returns-in_err-fill_half-clause-doubt : goal.returns-in_err-fill_half-clause-doubt
returns-in_err-fill_half-clause-doubt g c s f is honest holds =
    let d = g.D.Disk in
    let mid = c.close_half.ensures.fills.honesty ∙ honest in
    let kept = c.in_ok-close_half.ensures.holds s is.place honest holds in
    let shut = c.in_ok-close_half.ensures.closed s is.place honest holds in
    let n = length (half_bytes c.args.target c.args.change.now c.args.entries.now) in
    let seen = d.seen c.close_half.new.disk in
    let start = c.args.target.start in
    let gate : slice_index (d.seen c.fill_half.new.disk) start ≡ slice_index seen start =
    place_before (start + 1) n seen (d.seen c.fill_half.new.disk) (c.fill_half.ensures.fills.others mid) start 0 (omega arith) in
    inr (
      λ opened. shut.closed seen (g.met.D.Disk.seen_may_stay c.close_half.new.disk mid) (ap (slice_index seen) (sym is.place) ∙ sym gate ∙ opened),
      behind_differs d s.shape c.close_half.new.disk c.fill_half.new.disk mid (front_differs d s.shape c.close_half.new.disk (λ p. ⊥) kept.front) start n (start + half_length s.shape)
          (let within = bytes_within s f c.args.target c.args.change.now c.args.entries.now is in omega (arith, within)) c.fill_half.ensures.fills,
    )

pub returns-clause-doubt : goal.returns-clause-doubt
returns-clause-doubt g c s f is honest holds =
    let mid = c.close_half.ensures.fills.honesty ∙ honest in
    let now = c.fill_half.ensures.fills.honesty ∙ mid in
    inl (gate_differs g.D.Disk s.shape c.fill_half.new.disk c.take_half.new.disk now
    (settled_differs g.D.Disk s.shape c.fill_half.new.disk (λ p. ⊥) (c.in_ok-fill_half.ensures.settled mid)) c.args.target.start c.take_half.ensures.fills)
