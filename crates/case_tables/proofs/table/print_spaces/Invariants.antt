use Rattle.script_streams.specs.Printing.{sink, Prints}
use Rattle.case_tables.specs.Table.{spaces}
use Rattle.case_tables.proofs.table.print_spaces.Given as goal

abbrev pub invariant-loop : goal.invariant-loop
invariant-loop g l = Prints (sink g.O.Output l.initial.reply) (sink g.O.Output l.reply) (spaces l.counter)
