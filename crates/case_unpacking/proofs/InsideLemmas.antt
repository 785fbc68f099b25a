-- Why each place is inside.
use Rattle.std.proofs.Common.{◌≡◌, inl, inr, ◌⊎◌, ℕ, ◌+◌, ◌<◌, ◌^◌, ◌==◌, Bool, true, false, not, ◌&&◌, ◌||◌, cond, List, [], ◌∷◌, ◌++◌, codes, decimal, length, take, Option, None, Some, refl, sym, ap, subst, ◌∙◌, arith}
use Rattle.std.proofs.lemmas.Bool.{and_from, and_parts, or_right}
use Rattle.std.proofs.lemmas.List.Folds.{list_all-append}
use Rattle.std.specs.List.{join_with_byte, list_all, list_any, slice_get}
use Rattle.std.specs.Prelude.{nat_le, nat_lt}
use Rattle.std.specs.Str.{bytes_eq}
use Rattle.case_unpacking.specs.Names.{components, is_component, is_plain_byte, plain_path, without_deleted}
use Rattle.case_unpacking.specs.PlaceLaws.{IsInside, PlacesAreInside}
use Rattle.case_unpacking.specs.Places.{ArePlaces, FileSaid, below_root, meet, other_place, own_place, place_beside, place_text, unless_met}
use Rattle.case_unpacking.proofs.NumberLemmas.{number_is_component}
use Rattle.case_unpacking.proofs.PathLemmas.{parts_of, some_component}

-- a place is that of the name, or that of the case
module _ (before : List (List (List ℕ))) (f : FileSaid) where
  pub beside_cases : (own : Option (List (List ℕ))) → own_place f.name ≡ own
      → ((p : List (List ℕ)) × (own_place f.name ≡ Some p) × (list_any (meet p) before ≡ false) × (place_beside before f ≡ p)) ⊎ (place_beside before f ≡ other_place f.case)
  beside_cases None is = inr (ap (unless_met before f.case) is)
  beside_cases (Some p) is = by (list_any (meet p) before) refl
    where
      by : (t : Bool) → list_any (meet p) before ≡ t → ((q : List (List ℕ)) × (own_place f.name ≡ Some q) × (list_any (meet q) before ≡ false) × (place_beside before f ≡ q)) ⊎ (place_beside before f ≡ other_place f.case)
      by true e = inr (ap (unless_met before f.case) is ∙ ap (λ t. cond t (other_place f.case) p) e)
      by false e = inl (p, is, e, ap (unless_met before f.case) is ∙ ap (λ t. cond t (other_place f.case) p) e)

-- that of a name is below sysroot
pub own_is : (name : List ℕ) (o : Option (List ℕ)) (p : List (List ℕ)) → plain_path name ≡ o → own_place name ≡ Some p → (path : List ℕ) × (p ≡ below_root path) × (list_all is_component (components path) ≡ true)
own_is name None p e is = absurd cc
own_is name (Some path) p e is = let same : p ≡ below_root path = cc in (path, same, parts_of (without_deleted name) path e)

all_components : (p : List (List ℕ)) → IsInside p → list_all is_component p ≡ true
all_components p is = by is.root
  where
    by : (p ≡ codes "sysroot" ∷ is.below) ⊎ (p ≡ codes "other" ∷ is.below) → list_all is_component p ≡ true
    by (inl e) = ap (list_all is_component) e ∙ is.components
    by (inr e) = ap (list_all is_component) e ∙ is.components

abbrev written : ℕ → Bool
written b = b == 47 || is_plain_byte b

plain_written : (bs : List ℕ) → list_all is_plain_byte bs ≡ true → list_all written bs ≡ true
plain_written [] all = refl
plain_written (b ∷ bs) all =
    let both = and_parts (is_plain_byte b) (list_all is_plain_byte bs) all in
    and_from (written b) (list_all written bs) (or_right (b == 47) (is_plain_byte b) both.0) (plain_written bs both.1)

component_written : (c : List ℕ) → is_component c ≡ true → list_all written c ≡ true
component_written c is = plain_written c (and_parts (nat_lt 0 (length c) && nat_le (length c) 255 && not (bytes_eq c (codes ".")) && not (bytes_eq c (codes ".."))) (list_all is_plain_byte c) is).1

text_written : (parts : List (List ℕ)) → list_all is_component parts ≡ true → list_all written (join_with_byte 47 parts) ≡ true
text_written [] all = refl
text_written (c ∷ []) all = component_written c (and_parts (is_component c) true all).0
text_written (c ∷ d ∷ cs) all =
    let both = and_parts (is_component c) (list_all is_component (d ∷ cs)) all in
    list_all-append written c (47 ∷ join_with_byte 47 (d ∷ cs))
    ∙ and_from (list_all written c) (list_all written (join_with_byte 47 (d ∷ cs))) (component_written c both.0) (text_written (d ∷ cs) both.1)

own_inside : (path : List ℕ) → list_all is_component (components path) ≡ true → IsInside (below_root path)
own_inside path all = record { below = components path; root = inl refl; some = some_component path; components = all }

other_inside : (case : ℕ) → case < 2 ^ 32 → IsInside (other_place case)
other_inside case low = record { below = decimal case ∷ []; root = inr refl; some = omega arith; components = and_from (is_component (decimal case)) true (number_is_component case low) refl }

beside_inside : (before : List (List (List ℕ))) (f : FileSaid) → f.case < 2 ^ 32 → IsInside (place_beside before f)
beside_inside before f low = by (beside_cases before f (own_place f.name) refl)
  where
    by : ((p : List (List ℕ)) × (own_place f.name ≡ Some p) × (list_any (meet p) before ≡ false) × (place_beside before f ≡ p)) ⊎ (place_beside before f ≡ other_place f.case) → IsInside (place_beside before f)
    by (inl (p, is, apart, e)) = let own = own_is f.name (plain_path f.name) p refl is in subst IsInside (sym (e ∙ own.1)) (own_inside own.0 own.2)
    by (inr e) = subst IsInside (sym e) (other_inside f.case low)

pub are_inside : PlacesAreInside
are_inside files places are k f p file place low =
    let same : place_beside (take k places) f ≡ p = let e = are.each k f file in cc in
    let inside = subst IsInside same (beside_inside (take k places) f low) in
    (inside, text_written p (all_components p inside))
