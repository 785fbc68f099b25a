use Rattle.script_streams.specs.PrintLaws.{prints_then}
use Rattle.core_handler.specs.Printing.{why_words}
use Rattle.core_handler.proofs.outcome_lines.print_why.Goals as goal

pub returns : goal.returns
unfolding why_words
returns g c = prints_then c.print.ensures (prints_then c.print-2.ensures c.print_meant.ensures)
