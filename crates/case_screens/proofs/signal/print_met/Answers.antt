use Rattle.std.proofs.Common.{ap, sym}
use Rattle.script_words.specs.Printing.{hexadecimal}
use Rattle.script_streams.specs.PrintLaws.{prints_then, prints_as}
use Rattle.case_screens.specs.Signal.{met_text}
use Rattle.case_screens.proofs.signal.print_met.Goals as goal

pub returns-in-Some : goal.returns-in-Some
returns-in-Some g c =
    prints_as (ap met_text (sym c.in-Some.is))
    (prints_then c.print.ensures (prints_as (ap hexadecimal c.from.ensures) c.print_hexadecimal.ensures))
