use Rattle.script_streams.specs.PrintLaws.{prints_then}
use Rattle.case_screens.proofs.signal.print_signal_line.Goals as goal

pub returns : goal.returns
returns g c = prints_then c.print.ensures (prints_then c.print_met_or_kept.ensures c.print-2.ensures)
