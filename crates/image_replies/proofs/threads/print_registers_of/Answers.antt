use Rattle.std.proofs.Common.{Option, ap, sym}
use Rattle.std.specs.Option.{option_map}
use Rattle.thread_regs.specs.declared.thread_list.Thread.{Thread}
use Rattle.thread_regs.specs.ThreadWords.{thread_bytes}
use Rattle.script_streams.specs.Replies.{reply_of}
use Rattle.script_streams.specs.PrintLaws.{prints_then, prints_as}
use Rattle.image_replies.specs.Threads.{registers_of}
use Rattle.image_replies.proofs.threads.print_registers_of.Goals as goal

pub returns-in-Some-clause-states : goal.returns-in-Some-clause-states
returns-in-Some-clause-states g c =
    prints_as (ap (λ (o : Option Thread). reply_of (registers_of (option_map thread_bytes o))) (sym c.in-Some.is))
    (prints_then c.print_register_lines.ensures c.print_ok.ensures)

pub returns-in-None-clause-states : goal.returns-in-None-clause-states
returns-in-None-clause-states g c =
    prints_as (ap (λ (o : Option Thread). reply_of (registers_of (option_map thread_bytes o))) (sym c.in-None.is)) c.print_no.ensures
