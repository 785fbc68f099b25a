use Rattle.std.proofs.Common.{◌≡◌, ℕ, ◌||◌, List, drop}
use Rattle.std.specs.List.{list_any}
use Rattle.pruning.specs.Cases as spec
use Rattle.pruning.specs.KeptWords.{has_id, has_name}
use Rattle.pruning.proofs.kept.Kept.add_files.Given as goal

-- what is needed at the end is kept, or needed by a file that is left
abbrev pub invariant-loop-file : goal.invariant-loop-file
invariant-loop-file l = record {
  ids : (id : List ℕ) → (has_id l.fn.self id || list_any (spec.needs_id id) l.files) ≡ (has_id l.self id || list_any (spec.needs_id id) (drop l.file-index l.files));
  names : (name : List ℕ) → (has_name l.fn.self name || list_any (spec.is_named name) l.files) ≡ (has_name l.self name || list_any (spec.is_named name) (drop l.file-index l.files));
}
