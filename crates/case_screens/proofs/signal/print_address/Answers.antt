use Rattle.std.proofs.Common.{ap, sym, ◌∙◌}
use Rattle.script_words.specs.Printing.{hexadecimal}
use Rattle.script_streams.specs.PrintLaws.{prints_as}
use Rattle.case_screens.specs.Signal.{address_text}
use Rattle.case_screens.proofs.signal.print_address.Goals as goal

pub returns-in-Some : goal.returns-in-Some
returns-in-Some g c = prints_as (ap hexadecimal c.from.ensures ∙ ap address_text (sym c.in-Some.is)) c.print_hexadecimal.ensures
