use Rattle.std.proofs.Common.{take}
use Rattle.std.specs.List.{flat_map}
use Rattle.handler_files.specs.Counts.{count_of}
use Rattle.script_streams.specs.Printing.{Prints, sink}
use Rattle.command_line.specs.Metrics.{handled_sample}
use Rattle.command_line.proofs.metrics_text.print_samples.Given as goal

abbrev pub invariant-loop-counter : goal.invariant-loop-counter
invariant-loop-counter g l =
    Prints (sink g.O.Output l.initial.reply) (sink g.O.Output l.reply) (flat_map (λ counter. handled_sample l.path counter (count_of l.counts.counts counter)) (take l.counter-index l.counters))
