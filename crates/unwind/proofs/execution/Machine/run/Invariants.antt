use Rattle.std.proofs.Common.{◌≡◌}
use Rattle.unwind.specs.Execution as spec
use Rattle.unwind.specs.RowWords.{aim_of, state_of}
use Rattle.unwind.proofs.execution.Machine.run.Given as goal

-- what the whole program leaves is what the rest leaves
abbrev pub invariant-loop-rest : goal.invariant-loop-rest
invariant-loop-rest l =
    spec.run l.fn.limit (aim_of l.target) (state_of l.initial.self) l.fn.program ≡ spec.run l.count (aim_of l.target) (state_of l.self) l.rest

abbrev pub decreases-loop-rest : goal.decreases-loop-rest
decreases-loop-rest l = l.count
