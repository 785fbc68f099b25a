-- Paths by their components.
use Rattle.std.proofs.Common.{◌≡◌, ℕ, ◌+◌, ◌<◌, ◌==◌, Bool, true, false, ◌&&◌, cond, List, [], ◌∷◌, ◌++◌, codes, length, Option, None, Some, refl, ap, subst, ◌∙◌, arith}
use Rattle.std.proofs.lemmas.List.Splits.{join_with_byte-slice_split, length-slice_split}
use Rattle.std.specs.List.{count_by, join_with_byte, list_all, slice_split}
use Rattle.case_unpacking.specs.Names.{behind_root, components, is_component}
use Rattle.case_unpacking.specs.Places.{below_root, place_text}

abbrev pub is_slash : ℕ → Bool
is_slash b = b == 47

-- a path has a component
pub some_component : (path : List ℕ) → 0 < length (slice_split is_slash path)
some_component path = let e = length-slice_split is_slash path in omega (arith, e)

-- components behind a first one
pub joined : (first : List ℕ) (parts : List (List ℕ)) → 0 < length parts → join_with_byte 47 (first ∷ parts) ≡ first ++ 47 ∷ join_with_byte 47 parts
joined first [] some = absurd (omega (arith, some))
joined first (part ∷ parts) some = refl

pub below_text : (path : List ℕ) → place_text (below_root path) ≡ codes "sysroot" ++ 47 ∷ path
below_text path = joined (codes "sysroot") (components path) (some_component path) ∙ ap (λ (l : List ℕ). codes "sysroot" ++ 47 ∷ l) (join_with_byte-slice_split 47 path)

-- the components of a plain path are such
pub parts_of : (name path : List ℕ) → behind_root name ≡ Some path → list_all is_component (components path) ≡ true
parts_of [] path is = absurd cc
parts_of (b ∷ bs) path is = by (b == 47) (list_all is_component (components bs)) refl is
  where
    by : (t u : Bool) → list_all is_component (components bs) ≡ u → cond (t && u) (Some bs) None ≡ Some path → list_all is_component (components path) ≡ true
    by true true e so = let same : bs ≡ path = cc in subst (λ (l : List ℕ). list_all is_component (components l) ≡ true) same e
    by true false e so = absurd cc
    by false u e so = absurd cc
