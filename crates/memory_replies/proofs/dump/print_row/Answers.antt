use Rattle.std.proofs.Common.{ap}
use Rattle.script_words.specs.Hex.{hex_of}
use Rattle.script_streams.specs.PrintLaws.{prints_then, prints_as}
use Rattle.memory_replies.proofs.dump.print_row.Goals as goal

pub returns : goal.returns
returns g c =
    prints_then c.print_row_address.ensures
    (prints_then c.print.ensures
    (prints_then (prints_as (ap hex_of c.part.ensures) c.print_hex.ensures) c.print-2.ensures))
