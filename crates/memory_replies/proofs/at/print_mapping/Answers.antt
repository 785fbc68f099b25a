use Rattle.script_streams.specs.PrintLaws.{prints_as, prints_then}
use Rattle.memory_replies.specs.At.{at_line}
use Rattle.memory_replies.proofs.at.print_mapping.Goals as goal

pub returns : goal.returns
unfolding at_line
returns g c =
    prints_then c.print.ensures
    (prints_then c.print_hex_word.ensures
    (prints_then c.print_hex_word-2.ensures
    (prints_then c.print_past.ensures
    (prints_then (prints_as c.flag_letters.ensures c.print-2.ensures)
    (prints_then c.print-3.ensures
    (prints_then c.print-4.ensures c.print-5.ensures))))))
