use Rattle.std.proofs.Common.{take}
use Rattle.script_streams.specs.Printing.{sink}
use Rattle.std.specs.List.{flat_map}
use Rattle.script_streams.specs.Printing.{Prints}
use Rattle.archive_replies.specs.Texts.{dropped_line}
use Rattle.archive_replies.proofs.replies.print_dropped.Given as goal

abbrev pub invariant-loop-seq : goal.invariant-loop-seq
invariant-loop-seq g l = Prints (sink g.O.Output l.initial.reply) (sink g.O.Output l.reply) (flat_map dropped_line (take l.seq-index l.dropped))
