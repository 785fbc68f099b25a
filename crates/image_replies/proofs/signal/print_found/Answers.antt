use Rattle.std.proofs.Common.{Option, ap, sym}
use Rattle.std.specs.Option.{option_map}
use Rattle.core_notes.specs.declared.signal_info.SigInfo.{SigInfo}
use Rattle.core_notes.specs.DescriptorWords.{siginfo_bytes}
use Rattle.script_streams.specs.Replies.{reply_of}
use Rattle.script_streams.specs.PrintLaws.{prints_then, prints_as}
use Rattle.image_replies.specs.Lines.{if_there}
use Rattle.image_replies.specs.Signal.{signal_lines}
use Rattle.image_replies.proofs.signal.print_found.Goals as goal

pub returns-in-Some-clause-states : goal.returns-in-Some-clause-states
returns-in-Some-clause-states g c =
    prints_as (ap (λ (o : Option SigInfo). reply_of (if_there (option_map siginfo_bytes o) signal_lines)) (sym c.in-Some.is))
    (prints_then c.print_signal_lines.ensures c.print_ok.ensures)

pub returns-in-None-clause-states : goal.returns-in-None-clause-states
returns-in-None-clause-states g c =
    prints_as (ap (λ (o : Option SigInfo). reply_of (if_there (option_map siginfo_bytes o) signal_lines)) (sym c.in-None.is)) c.print_no.ensures
