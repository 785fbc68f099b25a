use Rattle.script_streams.specs.PrintLaws.{prints_then}
use Rattle.image_replies.proofs.signal.print_signal_lines.Goals as goal

pub returns : goal.returns
returns g c =
    prints_then c.print_cause.ensures
    (prints_then c.print_sender.ensures c.print_met_address.ensures)
