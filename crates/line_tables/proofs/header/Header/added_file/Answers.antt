use Rattle.std.proofs.Common.{slice_get, ap, sym, ◌∙◌}
use Rattle.line_tables.specs.Chain.{viewed}
use Rattle.line_tables.specs.EntryWords.{entry_view}
use Rattle.line_tables.specs.RowWords.{step_view, steps_left}
use Rattle.line_tables.proofs.Places.{added_step, added_none, get_first, get_next}
use Rattle.line_tables.proofs.header.Header.added_file.Goals as goal

pub loop-step-preserved-in_default-added : goal.loop-step-preserved-in_default-added
loop-step-preserved-in_default-added c =
    c.loop-step.invariant ∙ ap (λ es. slice_get es c.loop-step.left) (added_step (steps_left c.loop-step.steps) (steps_left c.next.new.self) (viewed step_view c.in-Some.step) _ c.in-Some.ensures.steps c.in_default-added.ensures)

pub returns-then-left-eq0 : goal.returns-then-left-eq0
returns-then-left-eq0 c =
    sym (c.loop-step.invariant ∙ ap (λ es. slice_get es c.loop-step.left) (added_step (steps_left c.loop-step.steps) (steps_left c.next.new.self) (viewed step_view c.in-Some.step) _ c.in-Some.ensures.steps c.in-Some-added.ensures) ∙ get_first c.loop-step.left (entry_view c.in-Some-added.entry) _ c.if-left-eq0.true)

pub loop-step-preserved : goal.loop-step-preserved
loop-step-preserved c =
    c.loop-step.invariant ∙ ap (λ es. slice_get es c.loop-step.left) (added_step (steps_left c.loop-step.steps) (steps_left c.next.new.self) (viewed step_view c.in-Some.step) _ c.in-Some.ensures.steps c.in-Some-added.ensures) ∙ get_next c.loop-step.left (entry_view c.in-Some-added.entry) _ c.if-left-eq0.false

pub returns : goal.returns
returns c = sym (c.loop-step.invariant ∙ added_none (steps_left c.loop-step.steps) c.loop-step.left c.in_default.ensures.steps.0)
