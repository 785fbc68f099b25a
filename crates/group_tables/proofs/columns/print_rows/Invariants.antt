use Rattle.std.proofs.Common.{take, map}
use Rattle.script_streams.specs.Printing.{sink, Prints}
use Rattle.group_tables.specs.Columns.{rows_text, texts}
use Rattle.group_tables.proofs.columns.print_rows.Given as goal

abbrev pub invariant-loop-row : goal.invariant-loop-row
invariant-loop-row g l = Prints (sink g.O.Output l.initial.reply) (sink g.O.Output l.reply) (rows_text l.columns (map texts (take l.row-index l.rows)))
