use Rattle.std.proofs.Common.{◌≡◌, ℕ, ◌+◌, ◌<◌, ◌≤◌, true, ⊎_elim, arith}
use Rattle.std.proofs.lemmas.Bool.{cases_lt}
use Rattle.salvage.specs.Contests.{is_used}
use Rattle.salvage.proofs.UseLemmas.{run_holds, used_past}
use Rattle.salvage.proofs.choosing.use_run.Goals as goal

pub returns-clause-used : goal.returns-clause-used
returns-clause-used c =
    let run = c.args.run in
    run_holds (λ k. is_used c.loop-block.used.items k ≡ true) run.start run.count
    (λ k low high.
    ⊎_elim (λ before. c.loop-block.invariant.done k low before)
    (λ past. used_past c.loop-block.used.items k (omega (arith, past, high, c.loop-block-test.false, c.min-end.ensures, c.loop-block.invariant.long, c.len.ensures, c.args.used.now.ok)))
    (cases_lt k c.loop-block.block))

pub returns-clause-stay : goal.returns-clause-stay
returns-clause-stay c = c.loop-block.invariant.stay
