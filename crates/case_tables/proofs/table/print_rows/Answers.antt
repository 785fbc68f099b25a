use Rattle.std.proofs.Common.{ap}
use Rattle.journal_layout.specs.Case.{case_of}
use Rattle.case_tables.specs.Table.{case_row}
use Rattle.case_tables.proofs.TableLemmas.{row_more}
use Rattle.script_streams.specs.PrintLaws.{prints_then, prints_as, prints_nothing}
use Rattle.std.proofs.Common.{arith}
use Rattle.case_tables.proofs.table.print_rows.Goals as goal

pub loop-case-init : goal.loop-case-init
loop-case-init g c = prints_nothing

pub loop-case-preserved : goal.loop-case-preserved
loop-case-preserved g c =
    let z = c.args.zone in
    let w = c.args.widths in
    prints_as (row_more (case_row z w) (λ e. case_of e.now) c.args.cases.now c.loop-case.case-index c.case-item.result (omega arith))
    (prints_then c.loop-case.invariant (prints_as (ap (λ e. case_row z w (case_of e.now)) c.case-item.is) c.print_row.ensures))
