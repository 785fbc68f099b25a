use Rattle.std.proofs.Common.{ap}
use Rattle.script_words.specs.Printing.{hexadecimal}
use Rattle.script_streams.specs.PrintLaws.{prints_then, prints_as}
use Rattle.memory_replies.proofs.search.print_address.Goals as goal

pub returns : goal.returns
returns g c = prints_then (prints_as (ap hexadecimal c.from.ensures) c.print_hexadecimal.ensures) c.print.ensures
