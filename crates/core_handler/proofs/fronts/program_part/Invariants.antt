use Rattle.std.proofs.Common.{◌≡◌, ◌++◌, List, ℕ, length}
use Rattle.core_handler.specs.Fronts as spec
use Rattle.core_handler.proofs.fronts.program_part.Given as goal

abbrev pub invariant-loop-after : goal.invariant-loop-after
invariant-loop-after l = (front : List ℕ) × (l.template ≡ front ++ l.rest) × (spec.shared_front l.template ≡ front ++ spec.shared_front l.rest)

abbrev pub decreases-loop-after : goal.decreases-loop-after
decreases-loop-after l = length l.rest
