use Rattle.std.proofs.Common.{◌≡◌, ℕ, ◌||◌, List, drop}
use Rattle.pruning.specs.Cases as spec
use Rattle.pruning.specs.KeptWords.{has_id, has_name}
use Rattle.pruning.proofs.kept.Kept.of.Given as goal

-- what the cores that stay need is kept, or needed by one that is left
abbrev pub invariant-loop-case : goal.invariant-loop-case
invariant-loop-case l = record {
  ids : (id : List ℕ) → spec.needed (spec.cores_that_stay l.gone l.cases) id ≡ (has_id l.kept id || spec.needed (spec.cores_that_stay l.gone (drop l.case-index l.cases)) id);
  names : (name : List ℕ) → spec.named (spec.cores_that_stay l.gone l.cases) name ≡ (has_name l.kept name || spec.named (spec.cores_that_stay l.gone (drop l.case-index l.cases)) name);
}
