-- What the cores that stay need, one core more.
use Rattle.std.proofs.Common.{◌≡◌, ℕ, Bool, true, false, cond, ◌||◌, List, ◌∷◌, refl, sym, ap, ◌∙◌}
use Rattle.std.specs.List.{list_any}
use Rattle.pruning.specs.Cases.{cores_that_stay, stays}
use Rattle.pruning.specs.declared.cases.LiveCase.{LiveCase}

pub inserted : (t old : Bool) → cond t true old ≡ (old || t)
inserted true true = refl
inserted true false = refl
inserted false true = refl
inserted false false = refl

or_assoc : (a b c : Bool) → (a || (b || c)) ≡ ((a || b) || c)
or_assoc true b c = refl
or_assoc false b c = refl

-- one element more is looked at
pub one_more : {X : Type 0} (p : X → Bool) (all old new : Bool) (x : X) (left rest : List X) → all ≡ (old || list_any p left) → left ≡ x ∷ rest → new ≡ (old || p x) → all ≡ (new || list_any p rest)
one_more p all old new x left rest before is after =
    before ∙ ap (λ ys. old || list_any p ys) is ∙ or_assoc old (p x) (list_any p rest) ∙ ap (λ t. t || list_any p rest) (sym after)

pub goes_first : (gone : List ℕ) (c : LiveCase) (cs : List LiveCase) → stays gone c ≡ false → cores_that_stay gone (c ∷ cs) ≡ cores_that_stay gone cs
goes_first gone c cs is = ap (λ t. cond t (c ∷ cores_that_stay gone cs) (cores_that_stay gone cs)) is
