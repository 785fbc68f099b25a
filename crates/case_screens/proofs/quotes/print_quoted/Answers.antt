use Rattle.script_streams.specs.PrintLaws.{prints_then}
use Rattle.case_screens.proofs.quotes.print_quoted.Goals as goal

pub returns : goal.returns
returns g c = prints_then c.print.ensures (prints_then c.print_name.ensures c.print-2.ensures)
