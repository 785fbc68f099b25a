use Rattle.std.proofs.Common.{◌≡◌, ◌+◌, ◌*◌, ◌≤◌, ℕ, List, drop, map}
use Rattle.journal_layout.specs.Case.{case_of}
use Rattle.fair_share.specs.Fairness.{blocks_of}
use Rattle.fair_share.specs.Totals.{total_in}
use Rattle.fair_share.proofs.totals.totals_of.Given as goal

abbrev pub invariant-loop-core : goal.invariant-loop-core
invariant-loop-core l = record {
  all : (owner : List ℕ) → total_in l.totals owner + blocks_of l.scope owner (map case_of (drop l.core-index l.cases)) ≡ blocks_of l.scope owner (map case_of l.cases);
  small : (owner : List ℕ) → total_in l.totals owner ≤ l.core-index * 18446744073709551615;
}
