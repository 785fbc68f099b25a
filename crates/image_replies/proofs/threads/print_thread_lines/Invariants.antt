use Rattle.std.proofs.Common.{◌<◌, ◌+◌, ◌^◌, length}
use Rattle.script_streams.specs.Printing.{sink}
use Rattle.thread_regs.specs.ThreadWords.{threads_left}
use Rattle.image_replies.specs.Lines.{numbered_lines}
use Rattle.image_replies.specs.Threads.{thread_line}
use Rattle.image_replies.proofs.TextLemmas.{PrintsFront}
use Rattle.image_replies.proofs.threads.print_thread_lines.Given as goal

-- the lines of what is left are still to be told
abbrev pub invariant-loop-thread : goal.invariant-loop-thread
invariant-loop-thread g l = record {
  told : PrintsFront (sink g.O.Output l.initial.reply) (sink g.O.Output l.reply) (numbered_lines thread_line 0 (threads_left l.fn.threads)) (numbered_lines thread_line l.index (threads_left l.rest));
  few : l.index + length (threads_left l.rest) < 2 ^ 128;
}
