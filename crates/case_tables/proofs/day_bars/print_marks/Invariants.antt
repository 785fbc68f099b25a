use Rattle.std.proofs.Common.{replicate}
use Rattle.script_streams.specs.Printing.{sink, Prints}
use Rattle.case_tables.proofs.day_bars.print_marks.Given as goal

abbrev pub invariant-loop : goal.invariant-loop
invariant-loop g l = Prints (sink g.O.Output l.initial.reply) (sink g.O.Output l.reply) (replicate l.counter 35)
