use Rattle.std.proofs.Common.{◌≡◌, ◌+◌, ℕ, drop, subst, suc, arith}
use Rattle.extents.specs.Runs.{blocks_of}
use Rattle.extents.specs.declared.run_list.Run.{Run}
use Rattle.salvage.specs.Mending.{AreBelow}
use Rattle.salvage.proofs.BlockLemmas.{below_back, none_left}
use Rattle.salvage.proofs.mending.are_before.Goals as goal

pub loop-run-init : goal.loop-run-init
loop-run-init c = λ all. all

pub loop-run-preserved : goal.loop-run-preserved
loop-run-preserved c = λ rest.
    let rs = c.args.runs.now in
    let i = c.loop-run.run-index in
    let next : i + 1 ≡ suc i = omega arith in
    let zero_run : Run = record { start = 0; count = 0 } in
    c.loop-run.invariant
    (below_back c.args.blocks rs i zero_run c.loop-run-test.true (omega (arith, c.if-from-blocks.false, c.from.ensures, c.from-in-loop-run.ensures))
    (subst (λ (k : ℕ). AreBelow c.args.blocks (blocks_of (drop k rs))) next rest))

pub returns : goal.returns
returns c = λ _. c.loop-run.invariant (none_left c.args.blocks c.args.runs.now c.loop-run.run-index c.loop-run-test.false)
