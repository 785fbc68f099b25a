use Rattle.std.proofs.Common.{arith, ap, length}
use Rattle.image_replies.specs.Lines.{numbered_lines}
use Rattle.image_replies.specs.Header.{segment_line}
use Rattle.image_replies.proofs.TextLemmas.{front_begins, front_grows, front_ends}
use Rattle.image_replies.proofs.header.print_segment_lines.Goals as goal

pub loop-segment-init : goal.loop-segment-init
loop-segment-init g c = record { told = front_begins; few = omega arith }

pub overflow_add-index : goal.overflow_add-index
overflow_add-index g c = omega (arith, c.loop-segment.invariant.few, ap length c.in-Some.ensures.steps)

pub loop-segment-preserved : goal.loop-segment-preserved
loop-segment-preserved g c = record {
  told = front_grows c.loop-segment.invariant.told (ap (numbered_lines segment_line c.loop-segment.index) c.in-Some.ensures.steps) c.print_segment_line.ensures;
  few = omega (arith, c.loop-segment.invariant.few, ap length c.in-Some.ensures.steps);
}

pub returns : goal.returns
returns g c = front_ends c.loop-segment.invariant.told (ap (numbered_lines segment_line c.loop-segment.index) c.in_default.ensures.steps.0)
