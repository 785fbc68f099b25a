use Rattle.std.proofs.Common.{◌≡◌, drop, map}
use Rattle.journal_layout.specs.Case.{case_of}
use Rattle.fair_share.specs.Fairness.{at_place, cores_of, inner}
use Rattle.fair_share.specs.declared.choosing.Scope.TheVariants.{Program}
use Rattle.fair_share.proofs.choosing.inner.Given as goal

abbrev pub invariant-loop-core : goal.invariant-loop-core
invariant-loop-core l = at_place l.left (cores_of Program l.program (map case_of (drop l.core-index l.cases))) ≡ inner (cores_of Program l.program (map case_of l.cases))
