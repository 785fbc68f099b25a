use Rattle.script_streams.specs.PrintLaws.{prints_then}
use Rattle.case_screens.proofs.screen.print_when.Goals as goal

pub returns : goal.returns
returns g c = prints_then c.print.ensures (prints_then c.print_time_in.ensures c.print-2.ensures)
