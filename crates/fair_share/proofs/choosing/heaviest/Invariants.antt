use Rattle.std.proofs.Common.{◌≡◌, drop, map}
use Rattle.journal_layout.specs.Case.{case_of}
use Rattle.fair_share.specs.Fairness.{cores_of, heaviest, weight}
use Rattle.fair_share.specs.Weighing.{IsWeighed, best_core, best_from}
use Rattle.fair_share.proofs.choosing.heaviest.Given as goal

abbrev pub invariant-loop-core : goal.invariant-loop-core
invariant-loop-core l = record {
  found : best_from (weight l.narrow (map case_of l.cases)) (best_core l.best) (cores_of l.wide l.owner (map case_of (drop l.core-index l.cases))) ≡ heaviest l.wide l.owner l.narrow (map case_of l.cases);
  weighed : IsWeighed l.narrow (map case_of l.cases) l.best;
}
