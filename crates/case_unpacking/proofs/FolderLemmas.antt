-- The folder that a path is in.
use Rattle.std.proofs.Common.{◌≡◌, ℕ, zero, suc, ◌+◌, ◌-◌, ◌<◌, ◌≤◌, ◌==◌, slice_index, slice_index_or, Bool, true, false, cond, List, [], ◌∷◌, ◌++◌, codes, length, take, drop, get_or, Option, None, Some, refl, sym, ap, ◌∙◌, arith}
use Rattle.std.proofs.lemmas.Bool.{eqb-true, false_from_ne_true}
use Rattle.std.proofs.lemmas.List.{append_assoc, drop_more, get_or-drop, get_or_default, length-append, length-drop, take-append-drop, take_at, take_more}
use Rattle.std.proofs.lemmas.List.Splits.{slice_split_none}
use Rattle.std.specs.List.{All, join_with_byte, onto_first, slice_split}
use Rattle.std.specs.Str.{bytes_eq}
use Rattle.memchr.specs.Find.{IsLastByte, is_byte}
use Rattle.case_unpacking.specs.GdbCommands.{below, folder_below, folder_of, more_folders, new_folder}
use Rattle.case_unpacking.specs.Names.{components}
use Rattle.case_unpacking.specs.Places.{below_root, place_text}
use Rattle.case_unpacking.specs.declared.places.Place.{Place}
use Rattle.case_unpacking.proofs.PathLemmas.{below_text, is_slash, some_component}

put_first : (x : ℕ) (parts more : List (List ℕ)) → 0 < length parts → onto_first x (parts ++ more) ≡ onto_first x parts ++ more
put_first x [] more some = absurd (omega (arith, some))
put_first x (p ∷ ps) more some = refl

cut : (t : Bool) (x : ℕ) (parts more : List (List ℕ)) → 0 < length parts → cond t ([] ∷ (parts ++ more)) (onto_first x (parts ++ more)) ≡ cond t ([] ∷ parts) (onto_first x parts) ++ more
cut true x parts more some = refl
cut false x parts more some = put_first x parts more some

-- the last component comes behind the others
split_last : (front back : List ℕ) → slice_split is_slash back ≡ back ∷ [] → slice_split is_slash (front ++ 47 ∷ back) ≡ slice_split is_slash front ++ back ∷ []
split_last [] back whole = ap (λ (ps : List (List ℕ)). [] ∷ ps) whole
split_last (x ∷ xs) back whole =
    ap (λ (ps : List (List ℕ)). cond (is_slash x) ([] ∷ ps) (onto_first x ps)) (split_last xs back whole)
    ∙ cut (is_slash x) x (slice_split is_slash xs) (back ∷ []) (some_component xs)

without_last : (parts : List (List ℕ)) (last : List ℕ) → take (length (parts ++ last ∷ []) - 1) (parts ++ last ∷ []) ≡ parts
without_last parts last = let e = length-append parts (last ∷ []) in take_at parts (last ∷ []) (length (parts ++ last ∷ []) - 1) (omega (arith, e))

module _ (path : List ℕ) where
  none_from : (n : ℕ) → n ≤ length path → ((k : ℕ) → n ≤ k → k < length path → slice_index path k == 47 ≡ true → ⊥) → All (λ b. is_slash b ≡ false) (drop n path)
  none_from n low none k d below' =
      let e = length-drop n path in
      let inside : n + k < length path = omega (arith, e, below', low) in
      ap is_slash (get_or-drop n path k d ∙ get_or_default path (n + k) d 0 inside)
      ∙ false_from_ne_true (slice_index path (n + k) == 47) (none (n + k) (omega arith) inside)

  at_slash : (at : ℕ) → at < length path → slice_index path at == 47 ≡ true → path ≡ take at path ++ 47 ∷ drop (at + 1) path
  at_slash at low is =
      sym (take-append-drop at path)
      ∙ ap (λ (l : List ℕ). take at path ++ l) (drop_more path at 0 low)
      ∙ ap (λ (b : ℕ). take at path ++ b ∷ drop (at + 1) path) (eqb-true (slice_index path at) 47 is)

  pub folder_at : (at : ℕ) → IsLastByte (is_byte 47) path (Some at) → below (Some (take at path)) ≡ folder_below (components path)
  folder_at at is =
      let low : at < length path = is.0.high in
      let back = drop (at + 1) path in
      let whole = slice_split_none is_slash back (none_from (at + 1) (omega (arith, low)) is.0.after) in
      sym (
      ap (λ (ps : List (List ℕ)). place_text (codes "sysroot" ∷ take (length ps - 1) ps)) (ap (slice_split is_slash) (at_slash at low is.1) ∙ split_last (take at path) back whole)
      ∙ ap (λ (ps : List (List ℕ)). place_text (codes "sysroot" ∷ ps)) (without_last (slice_split is_slash (take at path)) back)
      ∙ below_text (take at path))

  pub folder_none : IsLastByte (is_byte 47) path None → below None ≡ folder_below (components path)
  folder_none is = sym (ap (λ (ps : List (List ℕ)). place_text (codes "sysroot" ∷ take (length ps - 1) ps)) (slice_split_none is_slash path (none_from 0 (omega arith) is)))

behind_first : (x : List ℕ) (parts : List (List ℕ)) → 0 < length parts → take (length (x ∷ parts) - 1) (x ∷ parts) ≡ x ∷ take (length parts - 1) parts
behind_first x [] some = absurd (omega (arith, some))
behind_first x (p ∷ ps) some =
    let n = length ps in
    let outer : suc (suc n) - 1 ≡ suc n = omega arith in
    let inner : n ≡ suc n - 1 = omega arith in
    ap (λ (k : ℕ). take k (x ∷ p ∷ ps)) outer ∙ ap (λ (k : ℕ). x ∷ take k (p ∷ ps)) inner

-- the folder of a place is that of its path
pub folder_is : (path : List ℕ) → place_text (take (length (below_root path) - 1) (below_root path)) ≡ folder_below (components path)
folder_is path = ap place_text (behind_first (codes "sysroot") (components path) (some_component path))

-- which is not `other`
not_other : (parts : List (List ℕ)) → (bytes_eq (place_text (codes "sysroot" ∷ parts)) (codes "other") ≡ false) × (bytes_eq (codes "other") (place_text (codes "sysroot" ∷ parts)) ≡ false)
not_other [] = (refl, refl)
not_other (p ∷ ps) = (refl, refl)

pub apart_from_other : (path : List ℕ) → bytes_eq (place_text (take (length (below_root path) - 1) (below_root path))) (codes "other") ≡ false
apart_from_other path = ap (λ (t : List ℕ). bytes_eq t (codes "other")) (folder_is path) ∙ (not_other (take (length (components path) - 1) (components path))).0

pub other_apart : (path : List ℕ) → bytes_eq (codes "other") (place_text (take (length (below_root path) - 1) (below_root path))) ≡ false
other_apart path = ap (λ (t : List ℕ). bytes_eq (codes "other") t) (folder_is path) ∙ (not_other (take (length (components path) - 1) (components path))).1

-- the folders of the places from here on
more_from : (separator : List ℕ) (places : List Place) (at : ℕ) (d : Place) → at < length places
    → more_folders separator (take at places) (drop at places) ≡ new_folder separator (take at places) (get_or places at d) ++ more_folders separator (take (at + 1) places) (drop (at + 1) places)
more_from separator places at d low =
    ap (more_folders separator (take at places)) (drop_more places at d low)
    ∙ ap (λ (before : List Place). new_folder separator (take at places) (get_or places at d) ++ more_folders separator before (drop (at + 1) places)) (sym (take_more places at d low))

-- those that are told with one more
pub told_more : (separator : List ℕ) (places : List Place) (at : ℕ) (d : Place) (told new : List ℕ) → at < length places
    → told ++ more_folders separator (take at places) (drop at places) ≡ more_folders separator (take 1 places) (drop 1 places)
    → new ≡ new_folder separator (take at places) (get_or places at d)
    → told ++ new ++ more_folders separator (take (at + 1) places) (drop (at + 1) places) ≡ more_folders separator (take 1 places) (drop 1 places)
told_more separator places at d told new low all is =
    append_assoc told new (more_folders separator (take (at + 1) places) (drop (at + 1) places))
    ∙ ap (λ (l : List ℕ). told ++ (l ++ more_folders separator (take (at + 1) places) (drop (at + 1) places))) is
    ∙ ap (λ (l : List ℕ). told ++ l) (sym (more_from separator places at d low))
    ∙ all
