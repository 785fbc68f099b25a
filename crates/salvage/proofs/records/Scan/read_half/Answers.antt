use Rattle.std.proofs.Common.{◌≡◌, ℕ, ◌+◌, ◌-◌, ◌^◌, ◌≤◌, min, length, sym, ap, ◌∙◌, subst, arith}
use Rattle.salvage.specs.Alone.{between, was_open}
use Rattle.salvage.proofs.HalfLemmas.{AreReadTo, TakenAt, read_all, read_shut, step_more, still_to, taken_still}
use Rattle.salvage.proofs.records.Scan.read_half.Goals as goal

pub loop-start-preserved : goal.loop-start-preserved
loop-start-preserved c = record {
  drops = λ are. c.take.ensures.drops (c.loop-start.invariant.drops are);
  indexed = λ are. c.in_ok-length.ensures.indexed (c.loop-start.invariant.indexed are);
  stay = λ place k among. c.in_ok-length.ensures.stay place k (c.loop-start.invariant.stay place k among);
  from = λ are. c.in_ok-length.ensures.from (c.loop-start.invariant.from are);
  kept = λ k named. c.in_ok-length.ensures.kept k (c.loop-start.invariant.kept k named);
  read = λ low.
      let to = c.loop-start.invariant.read low in
      let front = c.args.front.now in
      let end = c.min-end.result in
      let last : end ≤ length front = omega (arith, c.min-end.ensures) in
      let before = c.loop-start-test.true in
      let old = c.loop-start.self in
      let new = c.take.new.self in
      step_more c.args.blocks front c.args.half.start end c.loop-start.start
      (TakenAt c.args.blocks front end old.reads.items old.drops.items) (TakenAt c.args.blocks front end new.reads.items new.drops.items) c.loop-start.in_row
      (λ p taken. taken_still c.args.blocks (between front p end) p old.reads.items new.reads.items old.drops.items new.drops.items c.in_ok-length.ensures.stay c.in_ok-length.ensures.kept taken)
      to (c.in_ok-length.ensures.taken (omega (arith, before)) last)
      c.in_ok-length.length c.saturating_add-start-in-loop-start.result c.row_after-in_row.result before (omega (arith, last)) c.in_ok-length.ensures.length
      (c.saturating_add-start-in-loop-start.ensures ∙ ap (λ (m : ℕ). min (c.loop-start.start + m) (2 ^ 64 - 1)) c.max.ensures) c.row_after-in_row.ensures.none c.row_after-in_row.ensures.more;
}

pub returns-clause-all : goal.returns-clause-all
returns-clause-all c = λ within opened k place is before.
    let e : c.min-end.result ≡ c.args.half.end = omega (arith, within, c.min-end.ensures) in
    let to = c.loop-start.invariant.read (omega (arith, is, before, e)) in
    let now = c.loop-start.self in
    let front = c.args.front.now in
    read_all c.args.blocks front c.args.half.start c.args.half.end c.loop-start.start c.loop-start.in_row now.reads.items now.drops.items
    (omega (arith, c.loop-start-test.false, e))
    (subst (λ (n : ℕ). AreReadTo c.args.blocks front c.args.half.start n c.loop-start.start c.loop-start.in_row (TakenAt c.args.blocks front n now.reads.items now.drops.items)) e to)
    opened k place is before

pub returns-then-not-was_open-2-clause-all : goal.returns-then-not-was_open-2-clause-all
returns-then-not-was_open-2-clause-all c = λ within opened k place is before.
    let e : c.min-end.result ≡ c.args.half.end = omega (arith, within, c.min-end.ensures) in
    let to = c.loop-start.invariant.read (omega (arith, is, before, e)) in
    let old = c.loop-start.self in
    let new = c.take.new.self in
    let front = c.args.front.now in
    let end = c.args.half.end in
    let there = subst (λ (n : ℕ). AreReadTo c.args.blocks front c.args.half.start n c.loop-start.start c.loop-start.in_row (TakenAt c.args.blocks front n old.reads.items old.drops.items)) e to in
    read_shut c.args.blocks front c.args.half.start end c.loop-start.start c.loop-start.in_row new.reads.items new.drops.items
    (ap was_open (sym c.byte_at-then-in_row-ge2.ensures) ∙ sym c.was_open-then-in_row-ge2.ensures ∙ c.if-not-was_open-2.true) c.if-in_row-ge2.true
    (still_to c.args.blocks front c.args.half.start end c.loop-start.start c.loop-start.in_row (TakenAt c.args.blocks front end old.reads.items old.drops.items)
    (TakenAt c.args.blocks front end new.reads.items new.drops.items)
    (λ p taken. taken_still c.args.blocks (between front p end) p old.reads.items new.reads.items old.drops.items new.drops.items c.in_ok-length.ensures.stay c.in_ok-length.ensures.kept taken) there)
    opened k place is before

pub returns-then-not-was_open-2-clause-stay : goal.returns-then-not-was_open-2-clause-stay
returns-then-not-was_open-2-clause-stay c = λ place k among. c.in_ok-length.ensures.stay place k (c.loop-start.invariant.stay place k among)

pub returns-then-not-was_open-2-clause-from : goal.returns-then-not-was_open-2-clause-from
returns-then-not-was_open-2-clause-from c = λ are. c.in_ok-length.ensures.from (c.loop-start.invariant.from are)
