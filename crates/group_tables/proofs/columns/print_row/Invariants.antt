use Rattle.std.proofs.Common.{take}
use Rattle.std.specs.List.{flat_map}
use Rattle.script_streams.specs.Printing.{sink, Prints}
use Rattle.group_tables.specs.Columns.{placed, texts}
use Rattle.group_tables.proofs.columns.print_row.Given as goal

abbrev pub invariant-loop-column : goal.invariant-loop-column
invariant-loop-column g l =
    Prints (sink g.O.Output l.initial.reply) (sink g.O.Output l.reply) (flat_map (placed (texts l.row)) (take l.column-index l.columns))
