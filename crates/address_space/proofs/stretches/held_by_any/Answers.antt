use Rattle.std.proofs.Common.{arith}
use Rattle.elf_view.specs.SegmentWords.{segment_view, segments_left}
use Rattle.address_space.proofs.Filled.{one_more_within}
use Rattle.address_space.proofs.stretches.held_by_any.Goals as goal

pub loop-segment-preserved : goal.loop-segment-preserved
loop-segment-preserved c = record {
  held = λ start past low high others.
      c.loop-segment.invariant.held start past (omega (arith, low, c.min.ensures)) (omega (arith, high, c.max.ensures))
      (one_more_within c.args.size c.args.first c.args.length c.held_by-more.result.start c.held_by-more.result.past start past (segment_view c.in-Some.segment) (segments_left c.next.new.self) (segments_left c.loop-segment.segments) c.in-Some.ensures.steps c.held_by-more.ensures.held
      (omega (arith, low, c.min.ensures)) (omega (arith, high, c.max.ensures)) others);
  within = (let so_far = c.loop-segment.invariant.within in let more = c.held_by-more.ensures.within in omega (arith, c.max.ensures));
}
