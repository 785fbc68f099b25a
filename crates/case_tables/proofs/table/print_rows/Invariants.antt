use Rattle.std.proofs.Common.{take, map}
use Rattle.std.specs.List.{flat_map}
use Rattle.script_streams.specs.Printing.{sink, Prints}
use Rattle.journal_layout.specs.Case.{case_of}
use Rattle.case_tables.specs.Table.{case_row}
use Rattle.case_tables.proofs.table.print_rows.Given as goal

abbrev pub invariant-loop-case : goal.invariant-loop-case
invariant-loop-case g l = Prints (sink g.O.Output l.initial.reply) (sink g.O.Output l.reply) (flat_map (case_row l.zone l.widths) (map (λ e. case_of e.now) (take l.case-index l.cases)))
