use Rattle.script_streams.specs.PrintLaws.{prints_then}
use Rattle.memory_replies.proofs.dump.print_not_dumped.Goals as goal

pub returns : goal.returns
returns g c =
    prints_then c.print_hex_word.ensures
    (prints_then c.print.ensures
    (prints_then c.print_hex_word-2.ensures
    (prints_then c.print_spot.ensures c.print-2.ensures)))
