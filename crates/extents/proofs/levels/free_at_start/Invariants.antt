use Rattle.std.proofs.Common.{◌≡◌, ◌<◌, ◌≤◌, ◌+◌, ◌*◌, ℕ}
use Rattle.extents.specs.FreeWords.{bit_of}
use Rattle.extents.proofs.levels.free_at_start.Given as goal

abbrev pub invariant-loop-place : goal.invariant-loop-place
invariant-loop-place l = (k : ℕ) → l.fn.run.start ≤ k → k < l.fn.run.start + l.fn.run.count → k < 64 * l.place → bit_of l.words k ≡ 1
