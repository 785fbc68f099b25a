use Rattle.std.proofs.Common.{ap}
use Rattle.std.specs.Prelude.{decimal}
use Rattle.script_words.specs.Printing.{hexadecimal}
use Rattle.script_streams.specs.PrintLaws.{prints_then, prints_as}
use Rattle.case_screens.proofs.screen.print_header.Goals as goal

pub returns : goal.returns
returns g c =
    prints_then c.print.ensures
    (prints_then (prints_as (ap decimal c.from.ensures) c.print_decimal.ensures)
    (prints_then c.print-2.ensures
    (prints_then (prints_as (ap hexadecimal c.from-2.ensures) c.print_hexadecimal.ensures)
    (prints_then c.print-3.ensures
    (prints_then (prints_as (ap hexadecimal c.from-3.ensures) c.print_hexadecimal-2.ensures)
    (prints_then c.print-4.ensures
    (prints_then (prints_as (ap decimal c.from-4.ensures) c.print_decimal-2.ensures) c.print-5.ensures)))))))
