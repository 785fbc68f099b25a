use Rattle.std.proofs.Common.{◌≡◌, ◌+◌, ◌*◌, ◌≤◌, drop, map}
use Rattle.journal_layout.specs.Case.{case_of}
use Rattle.fair_share.specs.Fairness.{blocks_of}
use Rattle.fair_share.proofs.choosing.count_blocks.Given as goal

abbrev pub invariant-loop-core : goal.invariant-loop-core
invariant-loop-core l = record {
  all : l.blocks + blocks_of l.scope l.owner (map case_of (drop l.core-index l.cases)) ≡ blocks_of l.scope l.owner (map case_of l.cases);
  small : l.blocks ≤ l.core-index * 18446744073709551615;
}
