use Rattle.std.proofs.Common.{◌≤◌, ◌<◌, ◌+◌, ℕ, get_or, map}
use Rattle.retention.specs.Rule.{seq_of}
use Rattle.case_listing.proofs.foreseen.are_rising.Given as goal

-- the numbers before this place rise
abbrev pub invariant-loop-i : goal.invariant-loop-i
invariant-loop-i l = record {
  some : 1 ≤ l.i;
  rising : (k : ℕ) → k + 1 < l.i → get_or (map seq_of l.briefs) k 0 < get_or (map seq_of l.briefs) (k + 1) 0;
}
