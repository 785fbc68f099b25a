use Rattle.std.proofs.Common.{ap}
use Rattle.std.specs.Prelude.{decimal}
use Rattle.script_streams.specs.PrintLaws.{prints_then, prints_as}
use Rattle.case_tables.proofs.archive_screen.print_layout.Goals as goal

pub returns : goal.returns
returns g c =
    prints_then c.print.ensures
    (prints_then (prints_as (ap decimal c.from.ensures) c.print_decimal.ensures)
    (prints_then c.print-2.ensures
    (prints_then c.print_size.ensures c.print-3.ensures)))
