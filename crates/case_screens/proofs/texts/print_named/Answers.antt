use Rattle.std.proofs.Common.{ap, sym}
use Rattle.std.specs.Prelude.{decimal}
use Rattle.script_streams.specs.PrintLaws.{prints_then, prints_as}
use Rattle.case_screens.specs.Reasons.{named}
use Rattle.case_screens.proofs.texts.print_named.Goals as goal

pub returns-in-Some : goal.returns-in-Some
returns-in-Some g c =
    prints_as (ap (named c.args.reason.now.name.now) (sym c.in-Some.is))
    (prints_then c.print.ensures (prints_then c.print-in-Some.ensures (prints_as (ap decimal c.from.ensures) c.print_decimal.ensures)))
