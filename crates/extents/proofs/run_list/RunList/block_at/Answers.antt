use Rattle.std.proofs.Common.{◌≡◌, sym, subst, ◌∙◌, arith, ◌<◌, length, get_or, List, ℕ}
use Rattle.extents.specs.Runs.{IsRun, AreApart}
use Rattle.extents.specs.declared.run_list.Run.{Run}
use Rattle.extents.proofs.BlockLemmas.{each_is_run, in_run, past_run}
use Rattle.extents.proofs.run_list.RunList.block_at.Goals as goal

-- the run that a look at the list meets
met_run : (rs : List Run) (items : List Run) (k : ℕ) (d : Run) → rs ≡ items → AreApart items → k < length rs → IsRun (get_or rs k d)
met_run rs items k d same apart within =
    let P : List Run → Type 0 = AreApart in
    each_is_run rs k d (subst P (sym same) apart) within

pub overflow_add-result : goal.overflow_add-result
overflow_add-result c =
    let rs = c.deref-run-items.result.now in
    let r = met_run rs c.self.inside.runs.items c.loop-run.run-index (record { start = 0; count = 0 }) c.deref-run-items.ensures.value c.self.invariant c.loop-run-test.true in
    let w = r.within in
    omega arith

pub returns-then-left-run : goal.returns-then-left-run
returns-then-left-run c =
    sym (in_run c.deref-run-items.result.now c.loop-run.run-index c.loop-run.left (record { start = 0; count = 0 }) c.loop-run-test.true c.if-left-run.true)
    ∙ c.loop-run.invariant

pub loop-run-preserved : goal.loop-run-preserved
loop-run-preserved c =
    sym (past_run c.deref-run-items.result.now c.loop-run.run-index c.loop-run.left (record { start = 0; count = 0 }) c.loop-run-test.true c.if-left-run.false)
    ∙ c.loop-run.invariant
