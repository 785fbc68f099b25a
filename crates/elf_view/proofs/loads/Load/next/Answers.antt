use Rattle.std.proofs.Common.{◌∙◌, sym, arith, length, ap}
use Rattle.elf_view.specs.SegmentWords.{segment_view}
use Rattle.elf_view.proofs.LoadPlaces.{load_first, load_passed, no_loads}
use Rattle.elf_view.proofs.loads.Load.next.Goals as goal

pub returns-then-is_load-clause-load : goal.returns-then-is_load-clause-load
returns-then-is_load-clause-load c =
    c.loop-segment.invariant.same ∙ load_first c.loop-segment.number _ _ (segment_view c.in-Some.segment) c.in-Some.ensures.steps (sym c.is_load.ensures ∙ c.if-is_load.true)

pub loop-segment-preserved : goal.loop-segment-preserved
loop-segment-preserved c =
    let fewer = ap length c.in-Some.ensures.steps in
    let small = c.loop-segment.invariant.few in
    record {
      same = c.loop-segment.invariant.same ∙ load_passed c.loop-segment.number _ _ (segment_view c.in-Some.segment) c.in-Some.ensures.steps (sym c.is_load.ensures ∙ c.if-is_load.false);
      few = omega (arith, fewer, small);
    }

pub returns-clause-load : goal.returns-clause-load
returns-clause-load c =
    (c.loop-segment.invariant.same ∙ no_loads c.loop-segment.number _ c.in_default.ensures.steps.0, no_loads c.loop-segment.number _ c.in_default.ensures.steps.1)
