use Rattle.std.proofs.Common.{drop, option_map}
use Rattle.core_notes.specs.FileWords.{files_bytes}
use Rattle.script_streams.specs.Printing.{sink}
use Rattle.thread_regs.specs.ThreadWords.{threads_left}
use Rattle.case_screens.specs.Core.{files_in}
use Rattle.case_screens.specs.Frames.{each_thread}
use Rattle.case_screens.proofs.TextLemmas.{PrintsFront}
use Rattle.case_screens.proofs.threads.print_each.Given as goal

-- the threads that are left are still to be told
abbrev pub invariant-loop-frames : goal.invariant-loop-frames
invariant-loop-frames g l =
    PrintsFront (sink g.O.Output l.initial.reply) (sink g.O.Output l.reply)
    (each_thread (files_in (option_map files_bytes l.files)) l.count (threads_left l.fn.threads) l.unwound)
    (each_thread (files_in (option_map files_bytes l.files)) l.count (threads_left l.rest) (drop l.frames-index l.unwound))
