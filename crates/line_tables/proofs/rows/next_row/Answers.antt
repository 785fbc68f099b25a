use Rattle.std.proofs.Common.{◌∙◌, ap}
use Rattle.line_tables.specs.Chain.{viewed}
use Rattle.line_tables.specs.HeaderWords.{machine_view}
use Rattle.line_tables.specs.RowWords.{step_view, steps_left}
use Rattle.line_tables.specs.Rows.{rows_from, with_row}
use Rattle.line_tables.proofs.RowPlaces.{rows_step, rows_none}
use Rattle.line_tables.proofs.rows.next_row.Goals as goal

pub returns-in-Some-row : goal.returns-in-Some-row
returns-in-Some-row c =
    let m = machine_view c.args.machine.now in
    c.loop-step.invariant ∙ rows_step m c.loop-step.registers _ _ _ (viewed step_view c.in-Some.step) _ c.in-Some.ensures.steps c.stepped-row.ensures
    ∙ ap (λ q. with_row q (rows_from m c.stepped-row.result.1 (steps_left c.next.new.self))) c.in-Some-row.is

pub loop-step-preserved : goal.loop-step-preserved
loop-step-preserved c =
    let m = machine_view c.args.machine.now in
    c.loop-step.invariant ∙ rows_step m c.loop-step.registers _ _ _ (viewed step_view c.in-Some.step) _ c.in-Some.ensures.steps c.stepped-row.ensures
    ∙ ap (λ q. with_row q (rows_from m c.stepped-row.result.1 (steps_left c.next.new.self))) c.in-None.is

pub returns : goal.returns
returns c =
    let m = machine_view c.args.machine.now in
    let last = c.in_default.ensures.steps in (c.loop-step.invariant ∙ rows_none m _ _ last.0, rows_none m _ _ last.1)
