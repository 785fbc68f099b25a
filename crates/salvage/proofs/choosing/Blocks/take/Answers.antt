use Rattle.std.proofs.Common.{◌≡◌, ◌+◌, ℕ, true, drop, subst, suc, arith}
use Rattle.std.specs.List.{Contains}
use Rattle.extents.specs.Runs.{blocks_of}
use Rattle.extents.specs.declared.run_list.Run.{Run}
use Rattle.salvage.specs.Contests.{is_used}
use Rattle.salvage.proofs.UseLemmas.{holds_back, none_behind}
use Rattle.salvage.proofs.choosing.Blocks.take.Goals as goal

pub loop-run-init : goal.loop-run-init
loop-run-init c = record { stay = λ k was. was; used = λ last still all. all }

pub loop-run-preserved : goal.loop-run-preserved
loop-run-preserved c = record {
  stay = λ k was. c.use_run.ensures.stay k (c.loop-run.invariant.stay k was);
  used = λ last still rest.
      let P : ℕ → Type 0 = λ k. is_used last k ≡ true in
      let i = c.loop-run.run-index in
      let next : i + 1 ≡ suc i = omega arith in
      let zero_run : Run = record { start = 0; count = 0 } in
      c.loop-run.invariant.used last (λ k was. still k (c.use_run.ensures.stay k was))
      (holds_back P c.args.runs.now i zero_run c.loop-run-test.true (λ k has. still k (c.use_run.ensures.used k has))
      (subst (λ (n : ℕ). (k : ℕ) → Contains (blocks_of (drop n c.args.runs.now)) k → P k) next rest));
}

pub returns-clause-used : goal.returns-clause-used
returns-clause-used c = c.loop-run.invariant.used c.loop-run.self.used.items (λ k was. was) (none_behind (λ k. is_used c.loop-run.self.used.items k ≡ true) c.args.runs.now c.loop-run.run-index c.loop-run-test.false)
