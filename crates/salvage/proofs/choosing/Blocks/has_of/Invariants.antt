-- The blocks of the run before this one are not used.
use Rattle.std.proofs.Common.{◌≡◌, ℕ, ◌<◌, ◌≤◌, false}
use Rattle.salvage.specs.Contests.{is_used}
use Rattle.salvage.proofs.choosing.Blocks.has_of.Given as goal

abbrev pub invariant-loop-block : goal.invariant-loop-block
invariant-loop-block l = (k : ℕ) → l.fn.run.start ≤ k → k < l.block → is_used l.self.used.items k ≡ false
