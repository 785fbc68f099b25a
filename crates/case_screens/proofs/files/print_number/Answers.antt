use Rattle.std.proofs.Common.{ap, sym, ◌∙◌}
use Rattle.std.specs.Prelude.{decimal}
use Rattle.script_streams.specs.PrintLaws.{prints_as}
use Rattle.case_screens.specs.Files.{number_text}
use Rattle.case_screens.proofs.files.print_number.Goals as goal

pub returns-in-Some : goal.returns-in-Some
returns-in-Some g c = prints_as (ap decimal c.from.ensures ∙ ap number_text (sym c.in-Some.is)) c.print_decimal.ensures

pub returns-in-None : goal.returns-in-None
returns-in-None g c = prints_as (ap number_text (sym c.in-None.is)) c.print.ensures
