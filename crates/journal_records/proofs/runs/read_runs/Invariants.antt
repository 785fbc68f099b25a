use Rattle.std.proofs.Common.{◌≡◌, ℕ, ◌*◌, ◌≤◌, List, length}
use Rattle.journal_records.specs.Taken.{Accounts}
use Rattle.journal_records.proofs.RunLemmas.{AreSoFar}
use Rattle.journal_records.proofs.runs.read_runs.Given as goal

abbrev pub invariant-loop-index : goal.invariant-loop-index
invariant-loop-index l = record {
  size : length l.free ≡ length l.initial.free;
  bound : l.blocks ≤ 16777216 * l.index;
  so_far : (used : List ℕ) → Accounts used l.initial.free → AreSoFar (length l.initial.free) used l.rest l.index-end l.index l.end l.list l.blocks l.free;
}
