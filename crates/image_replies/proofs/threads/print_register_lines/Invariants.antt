use Rattle.std.proofs.Common.{◌-◌}
use Rattle.script_streams.specs.Printing.{sink}
use Rattle.thread_regs.specs.ThreadWords.{thread_bytes}
use Rattle.image_replies.specs.Threads.{register_lines, register_lines_from}
use Rattle.image_replies.proofs.TextLemmas.{PrintsFront}
use Rattle.image_replies.proofs.threads.print_register_lines.Given as goal

-- the lines of the words that are left are still to be told
abbrev pub invariant-loop-word : goal.invariant-loop-word
invariant-loop-word g l = PrintsFront (sink g.O.Output l.initial.reply) (sink g.O.Output l.reply) (register_lines (thread_bytes l.thread)) (register_lines_from (thread_bytes l.thread) l.word (32 - l.word))
