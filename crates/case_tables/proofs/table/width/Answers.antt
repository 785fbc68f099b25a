use Rattle.std.proofs.Common.{arith, length, ap, ◌∙◌}
use Rattle.journal_layout.specs.Case.{case_of}
use Rattle.case_tables.specs.Cells.{cell}
use Rattle.case_tables.proofs.TableLemmas.{width_more}
use Rattle.case_tables.proofs.table.width.Goals as goal

pub loop-case-preserved : goal.loop-case-preserved
loop-case-preserved c =
    let more = width_more c.args.zone c.args.column (λ e. case_of e.now) c.args.cases.now c.loop-case.case-index c.case-item.result c.loop-case-test.true in
    let long = c.cell_length.ensures ∙ ap (λ e. length (cell c.args.zone c.args.column (case_of e.now))) c.case-item.is in
    omega (arith, more, long, c.loop-case.invariant, c.max-width.ensures)
