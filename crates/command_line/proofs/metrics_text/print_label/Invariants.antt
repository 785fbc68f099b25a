use Rattle.std.proofs.Common.{take}
use Rattle.std.specs.List.{flat_map}
use Rattle.script_streams.specs.Printing.{Prints, sink}
use Rattle.command_line.specs.Metrics.{label_byte}
use Rattle.command_line.proofs.metrics_text.print_label.Given as goal

abbrev pub invariant-loop-byte : goal.invariant-loop-byte
invariant-loop-byte g l = Prints (sink g.O.Output l.initial.reply) (sink g.O.Output l.reply) (flat_map label_byte (take l.byte-index l.text))
