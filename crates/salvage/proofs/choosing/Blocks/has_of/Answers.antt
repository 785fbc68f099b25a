use Rattle.std.proofs.Common.{◌≡◌, false, arith}
use Rattle.salvage.specs.Contests.{is_used}
use Rattle.salvage.proofs.UseLemmas.{run_holds}
use Rattle.salvage.proofs.choosing.Blocks.has_of.Goals as goal

pub returns : goal.returns
returns c = λ _. run_holds (λ k. is_used c.args.self.now.used.items k ≡ false) c.args.run.start c.args.run.count (λ k low high. c.loop-block.invariant k low (omega (arith, high, c.loop-block-test.false)))
