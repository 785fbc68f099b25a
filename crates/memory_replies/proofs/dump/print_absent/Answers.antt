use Rattle.std.proofs.Common.{ap}
use Rattle.script_words.specs.Printing.{hexadecimal}
use Rattle.script_streams.specs.PrintLaws.{prints_then, prints_as}
use Rattle.memory_replies.proofs.dump.print_absent.Goals as goal

pub returns : goal.returns
returns g c =
    prints_then c.print_hex_word.ensures
    (prints_then c.print.ensures
    (prints_then (prints_as (ap hexadecimal c.from.ensures) c.print_hexadecimal.ensures) c.print-2.ensures))
