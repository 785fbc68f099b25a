use Rattle.script_streams.specs.PrintLaws.{prints_then}
use Rattle.command_line.specs.Metrics.{metric_text}
use Rattle.command_line.proofs.metrics_text.print_metric.Goals as goal

pub returns : goal.returns
unfolding metric_text
returns g c =
    prints_then c.print.ensures
    (prints_then c.print-2.ensures
    (prints_then c.print-3.ensures
    (prints_then c.print-4.ensures
    (prints_then c.print-5.ensures
    (prints_then c.print-6.ensures
    (prints_then c.print-7.ensures
    (prints_then c.print-8.ensures
    (prints_then c.print-9.ensures c.print_sample.ensures))))))))
