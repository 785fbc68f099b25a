use Rattle.std.proofs.Common.{◌-◌, sym, ◌∙◌, arith, rules}
use Rattle.std.proofs.lemmas.Result.{err_from_is_err_and}
use Rattle.unwind.specs.RowWords.{aim_of, state_of, step_view}
use Rattle.unwind.proofs.Running.{run_end, run_over, run_step, run_stop, run_on}
use Rattle.unwind.proofs.execution.Machine.run.Goals as goal

pub returns-then-count-eq0 : goal.returns-then-count-eq0
returns-then-count-eq0 c =
    sym (c.loop-rest.invariant ∙ run_over c.loop-rest.count (aim_of c.args.target.now) (state_of c.loop-rest.self) c.loop-rest.rest.now c.if-count-eq0.true (search rules))

pub returns-in_err-step : goal.returns-in_err-step
returns-in_err-step c =
    let p = err_from_is_err_and c.from_residual.result c.from_residual.ensures.1 in
    rw (p.1, p.2) (sym (c.loop-rest.invariant ∙ run_step c.loop-rest.count (aim_of c.args.target.now) (state_of c.loop-rest.self) c.loop-rest.rest.now _ (search rules) (omega arith) c.in_err-step.ensures))

pub returns-then-ends_at : goal.returns-then-ends_at
returns-then-ends_at c =
    let aim = aim_of c.args.target.now in
    let s = state_of c.loop-rest.self in
    sym (c.loop-rest.invariant ∙ run_step c.loop-rest.count aim s c.loop-rest.rest.now _ (search rules) (omega arith) c.in_ok-step.ensures ∙ run_stop (c.loop-rest.count - 1) aim s (step_view c.in_ok-step.step) c.if-ends_at.ensures)

pub returns-in_err-execute : goal.returns-in_err-execute
returns-in_err-execute c =
    let aim = aim_of c.args.target.now in
    let s = state_of c.loop-rest.self in
    let p = err_from_is_err_and c.from_residual-in_err-execute.result c.from_residual-in_err-execute.ensures.1 in
    rw (p.1, p.2) (sym (c.loop-rest.invariant ∙ run_step c.loop-rest.count aim s c.loop-rest.rest.now _ (search rules) (omega arith) c.in_ok-step.ensures ∙ run_on (c.loop-rest.count - 1) aim s (step_view c.in_ok-step.step) _ c.if-ends_at.ensures c.in_err-execute.ensures))

pub loop-rest-preserved : goal.loop-rest-preserved
loop-rest-preserved c =
    let aim = aim_of c.args.target.now in
    let s = state_of c.loop-rest.self in
    c.loop-rest.invariant ∙ run_step c.loop-rest.count aim s c.loop-rest.rest.now _ (search rules) (omega arith) c.in_ok-step.ensures ∙ run_on (c.loop-rest.count - 1) aim s (step_view c.in_ok-step.step) _ c.if-ends_at.ensures c.in_ok-execute.ensures

pub returns : goal.returns
returns c =
    sym (c.loop-rest.invariant ∙ run_end c.loop-rest.count (aim_of c.args.target.now) (state_of c.loop-rest.self) c.loop-rest.rest.now (search rules))
