use Rattle.std.proofs.Common.{ℕ, ap}
use Rattle.std.specs.Prelude.{codes}
use Rattle.script_streams.specs.PrintLaws.{prints_as, prints_then}
use Rattle.command_line.specs.Metrics.{gauge}
use Rattle.command_line.proofs.metrics_text.print_metrics.Goals as goal

pub returns : goal.returns
returns g c =
    prints_then c.print_metric.ensures
    (prints_then c.print_metric-2.ensures
    (prints_then c.print_metric-3.ensures
    (prints_then (prints_as (ap (λ (n : ℕ). gauge (codes "corekeep_data_blocks") (codes "Data blocks of 4096 bytes.") c.args.path.now n) c.from.ensures) c.print_metric-4.ensures)
    (prints_then c.print_metric-5.ensures
    (prints_then c.print_metric-6.ensures
    (prints_then c.print_metric-7.ensures
    (prints_then c.print_metric-8.ensures
    (prints_then c.print_newest.ensures
    (prints_then c.print_handled.ensures c.print.ensures)))))))))
