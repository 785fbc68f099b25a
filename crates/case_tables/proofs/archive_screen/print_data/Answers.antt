use Rattle.std.proofs.Common.{ap}
use Rattle.std.specs.Prelude.{codes, decimal}
use Rattle.script_streams.specs.PrintLaws.{prints_then, prints_as}
use Rattle.case_tables.specs.ArchiveScreen.{counted_text}
use Rattle.case_tables.proofs.archive_screen.print_data.Goals as goal

pub returns : goal.returns
returns g c =
    prints_then c.print.ensures
    (prints_then (prints_as (ap (λ n. counted_text n (codes " block")) c.from.ensures) c.print_counted.ensures)
    (prints_then c.print-2.ensures
    (prints_then (prints_as (ap decimal c.from-2.ensures) c.print_decimal.ensures) c.print-3.ensures)))
