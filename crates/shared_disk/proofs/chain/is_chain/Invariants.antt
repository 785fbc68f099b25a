use Rattle.std.proofs.Common.{◌≤◌, drop, length}
use Rattle.shared_disk.specs.JournalLooks.{IsChain}
use Rattle.shared_disk.proofs.chain.is_chain.Given as goal

abbrev pub invariant-loop-left : goal.invariant-loop-left
invariant-loop-left l = record {
  rest : IsChain l.front l.at (drop l.left l.chain.places.items) l.chain.behind;
  few : l.left ≤ length l.chain.places.items;
  within : l.at ≤ l.chain.behind;
}

abbrev pub decreases-loop-left : goal.decreases-loop-left
decreases-loop-left l = l.left
