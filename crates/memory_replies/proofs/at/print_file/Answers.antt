use Rattle.script_streams.specs.PrintLaws.{prints_then}
use Rattle.memory_replies.specs.At.{file_line}
use Rattle.memory_replies.proofs.at.print_file.Goals as goal

pub returns : goal.returns
unfolding file_line
returns g c = prints_then c.print.ensures (prints_then c.print_spot.ensures c.print-2.ensures)
