use Rattle.script_streams.specs.PrintLaws.{prints_then}
use Rattle.memory_replies.specs.At.{function_line}
use Rattle.memory_replies.proofs.at.print_function.Goals as goal

pub returns : goal.returns
unfolding function_line
returns g c = prints_then c.print.ensures (prints_then c.print_place.ensures c.print-2.ensures)
