use Rattle.std.proofs.Common.{ap, option_map}
use Rattle.core_notes.specs.FileWords.{files_bytes}
use Rattle.script_streams.specs.PrintLaws.{prints_as}
use Rattle.thread_regs.specs.ThreadWords.{thread_bytes}
use Rattle.case_screens.specs.Core.{files_in}
use Rattle.case_screens.specs.Frames.{thread_text}
use Rattle.case_screens.proofs.TextLemmas.{front_begins, front_ends, front_grows}
use Rattle.case_screens.proofs.ThreadLemmas.{more_threads, no_threads}
use Rattle.case_screens.proofs.threads.print_each.Goals as goal

pub loop-frames-init : goal.loop-frames-init
loop-frames-init g c = front_begins

pub returns-in_default : goal.returns-in_default
returns-in_default g c = front_ends c.loop-frames.invariant (no_threads _ _ _ _ c.in_default.ensures.steps.0)

pub loop-frames-preserved : goal.loop-frames-preserved
loop-frames-preserved g c = front_grows c.loop-frames.invariant (more_threads _ _ _ _ _ _ _ c.frames-item.result c.in-Some.ensures.steps c.loop-frames-test.true)
    (prints_as (ap (thread_text (files_in (option_map files_bytes c.args.files)) c.args.count (thread_bytes c.in-Some.thread)) c.frames-item.is) c.print_thread.ensures)
