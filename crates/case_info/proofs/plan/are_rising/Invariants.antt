use Rattle.std.proofs.Common.{◌≤◌, ◌<◌, ◌+◌, ℕ, get_or, map}
use Rattle.pruning.specs.Cases.{number}
use Rattle.case_info.proofs.plan.are_rising.Given as goal

-- the numbers before this place rise
abbrev pub invariant-loop-i : goal.invariant-loop-i
invariant-loop-i l = record {
  some : 1 ≤ l.i;
  rising : (k : ℕ) → k + 1 < l.i → get_or (map number l.cases) k 0 < get_or (map number l.cases) (k + 1) 0;
}
