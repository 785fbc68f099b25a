use Rattle.std.proofs.Common.{◌≡◌, ◌+◌, ◌-◌, IsTrue, refl, sym, ◌∙◌, subst, arith}
use Rattle.case_journal.proofs.PublishLemmas.{on_ok}
use Rattle.journal_layout.specs.declared.shape.Half.TheVariants.{A, B}
use Rattle.case_journal.proofs.StandLemmas.{half_ends}
use Rattle.shared_disk.proofs.ReadLemmas.{reads_first, reads_more, parts_read}
use Rattle.shared_disk.proofs.reads.read_front.Goals as goal

pub returns-clause-read : goal.returns-clause-read
returns-clause-read g c =
    on_ok c.read_part-4.result _ _
    (λ read honest.
    let w = g.D.WatchedDisk in
    let d0 = c.args.disk.now in
    let d1 = c.read_part.new.disk in
    let d2 = c.read_part-2.new.disk in
    let d3 = c.read_part-3.new.disk in
    let d4 = c.read_part-4.new.disk in
    let r1 = c.read_part.ensures.runs in
    let r2 = c.read_part-2.ensures.runs in
    let r3 = c.read_part-3.ensures.runs in
    let r4 = c.read_part-4.ensures.runs in
    let h1 : IsTrue (w.is_honest d1) = subst IsTrue (sym r1.honesty) honest in
    let h2 : IsTrue (w.is_honest d2) = subst IsTrue (sym r2.honesty) h1 in
    let h3 : IsTrue (w.is_honest d3) = subst IsTrue (sym r3.honesty) h2 in
    let m1 : w.moments d1 ≡ w.moments d0 = r1.moments in
    let m2 : w.moments d2 ≡ w.moments d0 = r2.moments ∙ m1 in
    let m3 : w.moments d3 ≡ w.moments d0 = r3.moments ∙ m2 in
    let t1 = r1.later honest in
    let t2 = r2.later h1 in
    let t3 = r3.later h2 in
    let t4 = r4.later h3 in
    let o1 = c.read_part.ensures.others in
    let o2 = c.read_part-2.ensures.others in
    let o3 = c.read_part-3.ensures.others in
    let o4 = c.read_part-4.ensures.others in
    let l1 = o1.same_length in
    let l2 = o2.same_length in
    let l3 = o3.same_length in
    let whole = c.requires.front in
    let some = c.requires.limits.some_half in
    let a_is = c.half_start.ensures in
    let b_is = c.half_start-2.ensures in
    let start_is = c.half_start-start.ensures in
    let a_ends = half_ends c.args.shape A in
    let b_ends = half_ends c.args.shape B in
    let ends = half_ends c.args.shape c.args.half in
    let low = c.requires.start in
    let high = c.requires.in_half in
    let first = reads_more (w.moments d0) (w.moments d0) (w.reached d0) (w.reached d0) (w.reached d1) 0 24 c.args.front.now c.read_part.new.front _ refl (omega arith) t1
    (reads_first (w.moments d0) (w.reached d0) (w.reached d0) c.args.front.now (omega arith)) (c.in_ok-read_part.ensures.read honest) o1 (omega (arith, whole)) in
    let second = reads_more (w.moments d0) (w.moments d1) (w.reached d0) (w.reached d1) (w.reached d2) c.half_start.result 32 c.read_part.new.front c.read_part-2.new.front _ m1 t1 t2
    first (c.in_ok-read_part-2.ensures.read h1) o2 (omega (arith, whole, l1, a_is, a_ends, some)) in
    let third = reads_more (w.moments d0) (w.moments d2) (w.reached d0) (w.reached d2) (w.reached d3) c.half_start-2.result 32 c.read_part-2.new.front c.read_part-3.new.front _ m2 (omega (arith, t1, t2)) t3
    second (c.in_ok-read_part-3.ensures.read h2) o3 (omega (arith, whole, l1, l2, b_is, b_ends, some)) in
    let fourth = reads_more (w.moments d0) (w.moments d3) (w.reached d0) (w.reached d3) (w.reached d4) c.half_start-start.result (c.args.behind + 1 - c.half_start-start.result) c.read_part-3.new.front c.read_part-4.new.front _ m3
    (omega (arith, t1, t2, t3)) t4 third (read h3) o4 (omega (arith, whole, l1, l2, l3, start_is, ends, low, high)) in
    λ p there. fourth p (parts_read c.args.shape c.args.half c.args.behind c.half_start.result c.half_start-2.result c.half_start-start.result _ p a_is b_is start_is refl (omega (arith, start_is, low)) there))
    c.read_part-4.ensures.read
