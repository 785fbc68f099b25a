use Rattle.std.proofs.Common.{ap}
use Rattle.std.specs.Prelude.{decimal}
use Rattle.script_streams.specs.PrintLaws.{prints_as, prints_then}
use Rattle.command_line.proofs.metrics_text.print_sample.Goals as goal

pub returns : goal.returns
returns g c =
    prints_then c.print.ensures
    (prints_then c.print-2.ensures
    (prints_then c.print_label.ensures
    (prints_then c.print-3.ensures
    (prints_then (prints_as (ap decimal c.from.ensures) c.print_decimal.ensures) c.print-4.ensures))))
