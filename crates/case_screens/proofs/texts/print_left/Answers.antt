use Rattle.std.proofs.Common.{ap}
use Rattle.case_tables.specs.Table.{spaces}
use Rattle.script_streams.specs.PrintLaws.{prints_then, prints_as}
use Rattle.case_screens.proofs.texts.print_left.Goals as goal

pub returns : goal.returns
returns g c =
    prints_then c.print.ensures (prints_then (prints_as (ap spaces c.saturating_sub.ensures) c.print_spaces.ensures) c.print-2.ensures)
