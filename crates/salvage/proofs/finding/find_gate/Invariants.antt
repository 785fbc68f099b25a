-- The gate of the first faulty record is none of those that were tried.
use Rattle.std.proofs.Common.{◌+◌, ◌*◌, ◌/◌, ◌<◌, ◌≤◌, IsTrue}
use Rattle.salvage.specs.Finding.{GatesHave}
use Rattle.salvage.proofs.finding.find_gate.Given as goal

abbrev pub invariant-loop-left : goal.invariant-loop-left
invariant-loop-left g l = record {
  bound : l.left ≤ l.at / 16 + 1;
  tried : IsTrue (g.S.Source.is_honest l.source) → GatesHave (g.S.Source.seen l.source) (λ place. place ≤ l.at → place < 16 * l.left);
}

abbrev pub decreases-loop-left : goal.decreases-loop-left
decreases-loop-left g l = l.left
