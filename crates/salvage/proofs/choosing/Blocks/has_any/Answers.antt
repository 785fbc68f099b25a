use Rattle.std.proofs.Common.{◌≡◌, ◌+◌, ℕ, false, drop, subst, suc, arith}
use Rattle.std.specs.List.{Contains}
use Rattle.extents.specs.Runs.{blocks_of}
use Rattle.extents.specs.declared.run_list.Run.{Run}
use Rattle.salvage.specs.Contests.{is_used}
use Rattle.salvage.proofs.UseLemmas.{holds_back, none_behind}
use Rattle.salvage.proofs.choosing.Blocks.has_any.Goals as goal

pub loop-run-init : goal.loop-run-init
loop-run-init c = λ all. all

pub loop-run-preserved : goal.loop-run-preserved
loop-run-preserved c = λ rest.
    let P : ℕ → Type 0 = λ k. is_used c.args.self.now.used.items k ≡ false in
    let i = c.loop-run.run-index in
    let next : i + 1 ≡ suc i = omega arith in
    let zero_run : Run = record { start = 0; count = 0 } in
    c.loop-run.invariant
    (holds_back P c.args.runs.now i zero_run c.loop-run-test.true (c.has_of.ensures c.if-has_of.false)
    (subst (λ (n : ℕ). (k : ℕ) → Contains (blocks_of (drop n c.args.runs.now)) k → P k) next rest))

pub returns : goal.returns
returns c = λ _. c.loop-run.invariant (none_behind (λ k. is_used c.args.self.now.used.items k ≡ false) c.args.runs.now c.loop-run.run-index c.loop-run-test.false)
