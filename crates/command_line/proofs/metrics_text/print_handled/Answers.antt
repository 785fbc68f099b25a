use Rattle.std.proofs.Common.{ap, sym}
use Rattle.handler_files.specs.Counters.{counters}
use Rattle.script_streams.specs.PrintLaws.{prints_as, prints_then}
use Rattle.command_line.specs.Metrics.{handled_text}
use Rattle.command_line.proofs.metrics_text.print_handled.Goals as goal

pub returns : goal.returns
unfolding counters
returns g c = prints_as (ap (handled_text c.args.path.now) (sym c.in-Some.is)) (prints_then c.print.ensures c.print_samples.ensures)
