use Rattle.std.proofs.Common.{◌⊎◌, inl, ℕ, ◌+◌, List, [], ◌∷◌, arith, ◌∙◌, length, sym, subst, ap}
use Rattle.disk_model.specs.Disk.{ChangedIn}
use Rattle.disk_model.specs.Places.{overwritten, SameOutside}
use Rattle.disk_model.specs.Moments.{LeavesOnly}
use Rattle.disk_model.specs.MomentLaws.{changed_wider, changed_twice, weakened, then_again, now_too}
use Rattle.disk_model.specs.PartLaws.{same_twice, widened}
use Rattle.journal_layout.specs.Standing.{lengthened}
use Rattle.journal_layout.specs.Stands.{Stands}
use Rattle.journal_snapshot.specs.FillLaws.{fills_of}
use Rattle.case_journal.proofs.DoubtLemmas.{behind_doubts, gate_doubts}
use Rattle.case_journal.proofs.PublishLemmas.{before_gate, at_gate, made, on_ok}
use Rattle.case_journal.proofs.publish.publish.Goals as goal

pub returns-in_err-write_stable-clause-others : goal.returns-in_err-write_stable-clause-others
returns-in_err-write_stable-clause-others g c honest =
    widened (c.args.gate + 1) (length c.args.behind.now) _ _ (c.write_stable.ensures.others honest) c.args.gate (1 + length c.args.behind.now) (omega arith) (omega arith)

pub returns-in_err-write_stable-clause-any_moment : goal.returns-in_err-write_stable-clause-any_moment
returns-in_err-write_stable-clause-any_moment g c s r p honest all =
    let d = g.D.Disk in
    weakened d c.args.disk.now c.write_stable.new.disk (ChangedIn (c.args.gate + 1) (length c.args.behind.now) (d.may_leave c.args.disk.now)) (λ (b : List ℕ). Stands b s ⊎ Stands b (lengthened s r))
    (λ b changed. inl (before_gate s r c.args.gate c.args.behind.now p changed.0 (all changed.0 changed.1) b changed.2))
    (c.write_stable.ensures.any_moment honest)

pub returns-in_err-write_stable-clause-outside : goal.returns-in_err-write_stable-clause-outside
returns-in_err-write_stable-clause-outside g c honest =
    let d = g.D.Disk in
    weakened d c.args.disk.now c.write_stable.new.disk (ChangedIn (c.args.gate + 1) (length c.args.behind.now) (d.may_leave c.args.disk.now)) (ChangedIn c.args.gate (1 + length c.args.behind.now) (d.may_leave c.args.disk.now))
    (changed_wider (c.args.gate + 1) (length c.args.behind.now) c.args.gate (1 + length c.args.behind.now) (d.may_leave c.args.disk.now) (omega arith) (omega arith))
    (c.write_stable.ensures.any_moment honest)

pub returns-clause-others : goal.returns-clause-others
returns-clause-others g c honest =
    same_twice c.args.gate (1 + length c.args.behind.now) _ _ _
    (widened (c.args.gate + 1) (length c.args.behind.now) _ _ (c.write_stable.ensures.others honest) c.args.gate (1 + length c.args.behind.now) (omega arith) (omega arith))
    (widened c.args.gate 1 _ _ (c.write_stable-2.ensures.others (c.write_stable.ensures.honesty ∙ honest)) c.args.gate (1 + length c.args.behind.now) (omega arith) (omega arith))

pub returns-clause-any_moment : goal.returns-clause-any_moment
returns-clause-any_moment g c s r p honest all =
    let d = g.D.Disk in
    let old = c.args.disk.now in
    let mid = c.write_stable.new.disk in
    let new = c.write_stable-2.new.disk in
    let still = c.write_stable.ensures.honesty ∙ honest in
    let stable = c.in_ok-write_stable.ensures.stable honest in
    let settled = stable.0 in
    let seen_is = stable.1 in
    let seen_stands = all (d.seen old) (g.met.D.Disk.seen_may_stay old honest) in
    let Q : List ℕ → Type 0 = λ (b : List ℕ). Stands b s ⊎ Stands b (lengthened s r) in
    let first : LeavesOnly d old mid Q = weakened d old mid (ChangedIn (c.args.gate + 1) (length c.args.behind.now) (d.may_leave old)) Q
    (λ b changed. inl (before_gate s r c.args.gate c.args.behind.now p changed.0 (all changed.0 changed.1) b changed.2))
    (c.write_stable.ensures.any_moment honest) in
    let second : LeavesOnly d mid new Q = weakened d mid new (ChangedIn c.args.gate 1 (d.may_leave mid)) Q
    (λ b changed. at_gate s r c.args.gate c.args.behind.now p (d.seen old) seen_stands b (subst (λ (x : List ℕ). SameOutside c.args.gate 1 x b) (settled changed.0 changed.1 ∙ seen_is) changed.2))
    (c.write_stable-2.ensures.any_moment still) in
    then_again d old mid new Q first second

pub returns-clause-made : goal.returns-clause-made
returns-clause-made g c s r p honest all =
    let d = g.D.Disk in
    let old = c.args.disk.now in
    let mid = c.write_stable.new.disk in
    let new = c.write_stable-2.new.disk in
    let still = c.write_stable.ensures.honesty ∙ honest in
    let stable = c.in_ok-write_stable.ensures.stable honest in
    let seen_is = stable.1 in
    let seen_stands = all (d.seen old) (g.met.D.Disk.seen_may_stay old honest) in
    on_ok c.write_stable-2.result _ ((b : List ℕ) → d.may_leave new b → Stands b (lengthened s r))
    (λ after. λ b left. subst (λ (x : List ℕ). Stands x (lengthened s r))
    (sym (after.0 b left ∙ after.1 ∙ ap (λ (x : List ℕ). overwritten x c.args.gate (165 ∷ [])) seen_is))
    (made s r c.args.gate c.args.behind.now p (d.seen old) seen_stands))
    (c.write_stable-2.ensures.stable still)

pub returns-clause-outside : goal.returns-clause-outside
returns-clause-outside g c honest =
    let d = g.D.Disk in
    let old = c.args.disk.now in
    let mid = c.write_stable.new.disk in
    let new = c.write_stable-2.new.disk in
    let still = c.write_stable.ensures.honesty ∙ honest in
    let P : List ℕ → Type 0 = ChangedIn c.args.gate (1 + length c.args.behind.now) (d.may_leave old) in
    let first : LeavesOnly d old mid P = weakened d old mid (ChangedIn (c.args.gate + 1) (length c.args.behind.now) (d.may_leave old)) P
    (changed_wider (c.args.gate + 1) (length c.args.behind.now) c.args.gate (1 + length c.args.behind.now) (d.may_leave old) (omega arith) (omega arith))
    (c.write_stable.ensures.any_moment honest) in
    let so_far = now_too d old mid P first (g.met.D.Disk.counts_now mid) in
    let second : LeavesOnly d mid new P = weakened d mid new (ChangedIn c.args.gate 1 (d.may_leave mid)) P
    (λ b changed. changed_twice c.args.gate (1 + length c.args.behind.now) (d.may_leave old) b
    (changed.0, so_far changed.0 changed.1, widened c.args.gate 1 changed.0 b changed.2 c.args.gate (1 + length c.args.behind.now) (omega arith) (omega arith)))
    (c.write_stable-2.ensures.any_moment still) in
    then_again d old mid new P first second

pub returns-in_err-write_stable-clause-doubts : goal.returns-in_err-write_stable-clause-doubts
returns-in_err-write_stable-clause-doubts g c s r p honest holds =
    let d = g.D.Disk in
    let new = c.write_stable.new.disk in
    behind_doubts s r c.args.gate c.args.behind.now p d c.args.disk.now new honest (g.met.D.Disk.seen_may_stay c.args.disk.now honest) holds
    (fills_of d (c.args.gate + 1) (length c.args.behind.now) c.args.disk.now new (g.met.D.Disk.counts_now new) c.write_stable.ensures.any_moment c.write_stable.ensures.others c.write_stable.ensures.honesty c.write_stable.ensures.size)

pub returns-clause-doubts : goal.returns-clause-doubts
returns-clause-doubts g c s r p honest holds =
    let d = g.D.Disk in
    let old = c.args.disk.now in
    let mid = c.write_stable.new.disk in
    let new = c.write_stable-2.new.disk in
    let still = c.write_stable.ensures.honesty ∙ honest in
    let stable = c.in_ok-write_stable.ensures.stable honest in
    gate_doubts s r c.args.gate c.args.behind.now p d (d.seen old) mid new still (holds.stands (d.seen old) (g.met.D.Disk.seen_may_stay old honest)) stable.0 stable.1
    (fills_of d c.args.gate 1 mid new (g.met.D.Disk.counts_now new) c.write_stable-2.ensures.any_moment c.write_stable-2.ensures.others c.write_stable-2.ensures.honesty c.write_stable-2.ensures.size)
