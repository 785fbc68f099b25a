use Rattle.std.proofs.Common.{arith, ap, length}
use Rattle.image_replies.specs.Lines.{numbered_lines}
use Rattle.image_replies.specs.Threads.{thread_line}
use Rattle.image_replies.proofs.TextLemmas.{front_begins, front_grows, front_ends}
use Rattle.image_replies.proofs.threads.print_thread_lines.Goals as goal

pub loop-thread-init : goal.loop-thread-init
loop-thread-init g c = record { told = front_begins; few = omega arith }

pub overflow_add-index : goal.overflow_add-index
overflow_add-index g c = omega (arith, c.loop-thread.invariant.few, ap length c.in-Some.ensures.steps)

pub loop-thread-preserved : goal.loop-thread-preserved
loop-thread-preserved g c = record {
  told = front_grows c.loop-thread.invariant.told (ap (numbered_lines thread_line c.loop-thread.index) c.in-Some.ensures.steps) c.print_thread_line.ensures;
  few = omega (arith, c.loop-thread.invariant.few, ap length c.in-Some.ensures.steps);
}

pub returns : goal.returns
returns g c = front_ends c.loop-thread.invariant.told (ap (numbered_lines thread_line c.loop-thread.index) c.in_default.ensures.steps.0)
