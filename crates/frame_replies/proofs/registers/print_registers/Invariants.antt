use Rattle.std.proofs.Common.{◌-◌}
use Rattle.script_streams.specs.Printing.{sink}
use Rattle.frame_replies.specs.FrameRegisters.{register_lines, register_lines_from}
use Rattle.frame_replies.proofs.PrintLemmas.{PrintsUpTo}
use Rattle.frame_replies.proofs.registers.print_registers.Given as goal

-- the lines of the words that are left are still to be told
abbrev pub invariant-loop-word : goal.invariant-loop-word
invariant-loop-word g l = PrintsUpTo (sink g.O.Output l.initial.reply) (sink g.O.Output l.reply) (register_lines l.frame) (register_lines_from l.frame l.word (32 - l.word))
