use Rattle.std.proofs.Common.{◌<◌, ◌+◌, ◌^◌, length}
use Rattle.script_streams.specs.Printing.{sink}
use Rattle.address_space.specs.PieceWords.{mapping_view}
use Rattle.thread_regs.specs.ThreadWords.{threads_left}
use Rattle.image_replies.specs.Lines.{numbered_lines}
use Rattle.memory_replies.specs.At.{stack_line}
use Rattle.memory_replies.proofs.AtPrintLemmas.{PrintsUpTo}
use Rattle.memory_replies.proofs.stacks.print_stacks.Given as goal

-- the lines of what is left are still to be told
abbrev pub invariant-loop-thread : goal.invariant-loop-thread
invariant-loop-thread g l = record {
  told : PrintsUpTo (sink g.O.Output l.initial.reply) (sink g.O.Output l.reply) (numbered_lines (stack_line (mapping_view l.mapping)) 0 (threads_left l.fn.threads)) (numbered_lines (stack_line (mapping_view l.mapping)) l.index (threads_left l.rest));
  few : l.index + length (threads_left l.rest) < 2 ^ 128;
}
