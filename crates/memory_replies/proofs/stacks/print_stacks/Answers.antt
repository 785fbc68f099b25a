use Rattle.std.proofs.Common.{arith, ap, length}
use Rattle.address_space.specs.PieceWords.{mapping_view}
use Rattle.image_replies.specs.Lines.{numbered_lines}
use Rattle.memory_replies.specs.At.{stack_line}
use Rattle.memory_replies.proofs.AtPrintLemmas.{up_to_start, up_to_then, up_to_end}
use Rattle.memory_replies.proofs.stacks.print_stacks.Goals as goal

pub loop-thread-init : goal.loop-thread-init
loop-thread-init g c = record { told = up_to_start; few = omega arith }

pub overflow_add-index : goal.overflow_add-index
overflow_add-index g c = omega (arith, c.loop-thread.invariant.few, ap length c.in-Some.ensures.steps)

pub loop-thread-preserved : goal.loop-thread-preserved
loop-thread-preserved g c = record {
  told = up_to_then (ap (numbered_lines (stack_line (mapping_view c.args.mapping.now)) c.loop-thread.index) c.in-Some.ensures.steps) c.loop-thread.invariant.told c.print_stack.ensures;
  few = omega (arith, c.loop-thread.invariant.few, ap length c.in-Some.ensures.steps);
}

pub returns : goal.returns
returns g c = up_to_end (ap (numbered_lines (stack_line (mapping_view c.args.mapping.now)) c.loop-thread.index) c.in_default.ensures.steps.0) c.loop-thread.invariant.told
