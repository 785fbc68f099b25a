use Rattle.std.proofs.Common.{ap, sym}
use Rattle.script_streams.specs.PrintLaws.{prints_as}
use Rattle.case_screens.specs.Screen.{pin_text}
use Rattle.case_screens.proofs.screen.print_pin.Goals as goal

pub returns-then-pinned : goal.returns-then-pinned
returns-then-pinned g c = prints_as (ap pin_text (sym c.if-pinned.true)) c.print.ensures

pub returns-else-pinned : goal.returns-else-pinned
returns-else-pinned g c = prints_as (ap pin_text (sym c.if-pinned.false)) c.print-else-pinned.ensures
