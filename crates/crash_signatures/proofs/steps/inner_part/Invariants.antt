use Rattle.std.proofs.Common.{◌≡◌, ◌==◌, ◌++◌, drop, map, take, true}
use Rattle.crash_signatures.specs.Steps.{inner_part}
use Rattle.crash_signatures.specs.WordViews.{said}
use Rattle.crash_signatures.proofs.steps.inner_part.Given as goal

abbrev pub invariant-loop-at : goal.invariant-loop-at
invariant-loop-at l = inner_part true (map said l.words) ≡ take l.at (map said l.words) ++ inner_part (l.at == 0) (drop l.at (map said l.words))
