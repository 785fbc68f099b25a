use Rattle.std.proofs.Common.{drop}
use Rattle.pruning.specs.KeptWords.{has_id, has_name}
use Rattle.pruning.specs.Pruning.{Goes}
use Rattle.pruning.proofs.BuildLemmas.{Follows}
use Rattle.pruning.proofs.dropping.builds_that_go.Given as goal

-- the numbers so far, and those of what is left, are all of them
abbrev pub invariant-loop-case : goal.invariant-loop-case
invariant-loop-case l = Follows (Goes (has_id l.kept) (has_name l.kept)) l.cases l.numbers.items (drop l.case-index l.cases)
