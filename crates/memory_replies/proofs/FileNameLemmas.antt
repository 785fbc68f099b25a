-- The names of mapped files, one more.
use Rattle.std.proofs.Common.{◌≡◌, ℕ, Bool, true, false, cond, ◌||◌, List, ◌∷◌, refl, sym, ap, ◌∙◌}
use Rattle.std.specs.List.{list_any}
use Rattle.std.specs.Str.{bytes_eq}
use Rattle.core_notes.specs.FileList.{FileView}
use Rattle.memory_replies.specs.Memory.{has_name}

moved : (old here later : Bool) → (old || (here || later)) ≡ (cond here true old || later)
moved true true later = refl
moved true false later = refl
moved false true later = refl
moved false false later = refl

-- a name is among those that are kept and those that are left, also when the first of these is kept
pub one_kept : (all old new : Bool) (name : List ℕ) (f : FileView) (left rest : List FileView) → all ≡ (old || list_any (has_name name) left) → left ≡ f ∷ rest
    → new ≡ cond (bytes_eq f.name name) true old → all ≡ (new || list_any (has_name name) rest)
one_kept all old new name f left rest before is after =
    before ∙ ap (λ fs. old || list_any (has_name name) fs) is ∙ moved old (bytes_eq f.name name) (list_any (has_name name) rest)
    ∙ ap (λ t. t || list_any (has_name name) rest) (sym after)
