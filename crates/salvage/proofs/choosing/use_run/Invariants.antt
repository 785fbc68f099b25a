-- The blocks of the run before this one are used.
use Rattle.std.proofs.Common.{◌≡◌, ℕ, ◌<◌, ◌≤◌, true, length}
use Rattle.salvage.specs.Contests.{StayUsed, is_used}
use Rattle.salvage.proofs.choosing.use_run.Given as goal

abbrev pub invariant-loop-block : goal.invariant-loop-block
invariant-loop-block l = record {
  long : length l.used.items ≡ length l.fn.used.items;
  stay : StayUsed l.fn.used.items l.used.items;
  done : (k : ℕ) → l.fn.run.start ≤ k → k < l.block → is_used l.used.items k ≡ true;
}
