use Rattle.std.proofs.Common.{ap}
use Rattle.std.specs.Prelude.{decimal}
use Rattle.script_streams.specs.PrintLaws.{prints_as, prints_then}
use Rattle.command_line.specs.Metrics.{handled_sample, reason_label}
use Rattle.command_line.proofs.metrics_text.print_counter.Goals as goal

pub returns : goal.returns
unfolding handled_sample
returns g c =
    prints_then c.print.ensures
    (prints_then c.print_label.ensures
    (prints_then c.print-2.ensures
    (prints_then (prints_as c.outcome.ensures c.print-3.ensures)
    (prints_then c.print-4.ensures
    (prints_then (prints_as (ap reason_label c.reason.ensures) c.print_reason.ensures)
    (prints_then c.print-5.ensures
    (prints_then (prints_as (ap decimal c.from.ensures) c.print_decimal.ensures) c.print-6.ensures)))))))
