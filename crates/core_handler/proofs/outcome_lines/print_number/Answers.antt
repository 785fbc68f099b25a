use Rattle.script_streams.specs.PrintLaws.{prints_then}
use Rattle.core_handler.specs.Printing.{number_words}
use Rattle.core_handler.proofs.outcome_lines.print_number.Goals as goal

pub returns : goal.returns
unfolding number_words
returns g c = prints_then c.print.ensures (prints_then c.print-2.ensures (prints_then c.print-3.ensures c.print-4.ensures))
