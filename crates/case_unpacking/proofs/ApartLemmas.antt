-- Why places are apart, and why plain names are kept.
use Rattle.std.proofs.Common.{◌≡◌, ◌≢◌, inl, inr, ◌⊎◌, ℕ, ◌+◌, ◌<◌, ◌^◌, Bool, true, false, ◌&&◌, cond, List, [], ◌∷◌, ◌++◌, codes, decimal, length, take, Option, None, Some, refl, sym, ap, subst, ◌∙◌, arith}
use Rattle.std.proofs.lemmas.Bool.{and_from, and_parts, cases_order, false≢true}
use Rattle.std.proofs.lemmas.Fmt.{decimal_injective}
use Rattle.std.proofs.lemmas.Slice.Eq.{bytes_eq-Decides}
use Rattle.std.specs.List.{list_all, list_any, slice_get}
use Rattle.std.specs.Str.{bytes_eq}
use Rattle.case_unpacking.specs.Names.{components, is_component, plain_path}
use Rattle.case_unpacking.specs.PlaceLaws.{AreOneImage, PlacesAreApart, PlainNamesAreKept}
use Rattle.case_unpacking.specs.Places.{ArePlaces, FileSaid, below_root, meet, other_place, own_place, place_beside, unless_met}
use Rattle.case_unpacking.proofs.InsideLemmas.{beside_cases, own_is}
use Rattle.case_unpacking.proofs.PlaceLemmas.{get_below, get_either, get_taken, no_pass, none_passes, taken_below}

same_bytes : (c : List ℕ) → bytes_eq c c ≡ true
same_bytes c = (bytes_eq-Decides c c).1 refl

-- a place meets what is below it
meets_below : (p more : List (List ℕ)) → meet p (p ++ more) ≡ true
meets_below [] more = refl
meets_below (c ∷ p) more = and_from (bytes_eq c c) (meet p (p ++ more)) (same_bytes c) (meets_below p more)

below_meets : (p more : List (List ℕ)) → meet (p ++ more) p ≡ true
below_meets [] [] = refl
below_meets [] (c ∷ more) = refl
below_meets (c ∷ p) more = and_from (bytes_eq c c) (meet (p ++ more) p) (same_bytes c) (below_meets p more)

-- the file of an earlier place, whose own is below sysroot or which is in other
module _ (f g : FileSaid) (p q : List (List ℕ)) (low : f.case < 2 ^ 32) (low' : g.case < 2 ^ 32) where
  not_met : (path : List ℕ) → p ≡ below_root path → q ≡ other_place g.case → meet q p ≡ true → AreOneImage f g p q
  not_met path e e' met = absurd (false≢true (sym (ap (λ (l : List (List ℕ)). meet l p) e' ∙ ap (meet (other_place g.case)) e) ∙ met))

  both_other : p ≡ other_place f.case → q ≡ other_place g.case → meet q p ≡ true → AreOneImage f g p q
  both_other e e' met =
      let met' : (bytes_eq (decimal g.case) (decimal f.case) && true) ≡ true = sym (ap (λ (l : List (List ℕ)). meet l p) e' ∙ ap (meet (other_place g.case)) e) ∙ met in
      let digits = (bytes_eq-Decides (decimal g.case) (decimal f.case)).0 (and_parts (bytes_eq (decimal g.case) (decimal f.case)) true met').0 in
      let one = decimal_injective g.case f.case (omega (arith, low')) (omega (arith, low)) digits in
      record { case = one; first = e; second = e' ∙ ap other_place one }

module _ (files : List FileSaid) (places : List (List (List ℕ))) (are : ArePlaces files places) where
  placed : (k : ℕ) (f : FileSaid) (p : List (List ℕ)) → slice_get files k ≡ Some f → slice_get places k ≡ Some p → place_beside (take k places) f ≡ p
  placed k f p file place = let e = are.each k f file in cc

  module _ (j k : ℕ) (f g : FileSaid) (p q : List (List ℕ)) (before : j < k) (file : slice_get files j ≡ Some f) (place : slice_get places j ≡ Some p)
      (file' : slice_get files k ≡ Some g) (place' : slice_get places k ≡ Some q) (low : f.case < 2 ^ 32) (low' : g.case < 2 ^ 32) (met : meet q p ≡ true) where
    earlier : q ≡ other_place g.case → AreOneImage f g p q
    earlier e' = by (beside_cases (take j places) f (own_place f.name) refl)
      where
        here : place_beside (take j places) f ≡ p
        here = placed j f p file place

        by : ((r : List (List ℕ)) × (own_place f.name ≡ Some r) × (list_any (meet r) (take j places) ≡ false) × (place_beside (take j places) f ≡ r)) ⊎ (place_beside (take j places) f ≡ other_place f.case) → AreOneImage f g p q
        by (inl (r, is, apart, e)) = let own = own_is f.name (plain_path f.name) r refl is in not_met f g p q low low' own.0 (sym here ∙ e ∙ own.1) e' met
        by (inr e) = both_other f g p q low low' (sym here ∙ e) e' met

    later : AreOneImage f g p q
    later = by (beside_cases (take k places) g (own_place g.name) refl)
      where
        here : place_beside (take k places) g ≡ q
        here = placed k g q file' place'

        by : ((r : List (List ℕ)) × (own_place g.name ≡ Some r) × (list_any (meet r) (take k places) ≡ false) × (place_beside (take k places) g ≡ r)) ⊎ (place_beside (take k places) g ≡ other_place g.case) → AreOneImage f g p q
        by (inl (r, is, apart, e)) =
            let unmet = none_passes (meet r) (take k places) j p apart (get_taken places k j before ∙ place) in
            absurd (false≢true (sym unmet ∙ ap (λ (l : List (List ℕ)). meet l p) (sym e ∙ here) ∙ met))
        by (inr e) = earlier (sym here ∙ e)

  swapped : (f g : FileSaid) (p q : List (List ℕ)) → AreOneImage g f q p → AreOneImage f g p q
  swapped f g p q one = record { case = sym one.case; first = one.second ∙ ap other_place (sym one.case); second = one.first ∙ ap other_place (sym one.case) }

pub are_apart : PlacesAreApart
are_apart files places are j k f g p q more differ file place file' place' low low' e = by (cases_order j k)
  where
    by : (j ≡ k) ⊎ ((j < k) ⊎ (k < j)) → AreOneImage f g p q
    by (inl same) = absurd (differ same)
    by (inr (inl before)) = later files places are j k f g p q before file place file' place' low low' (ap (λ (l : List (List ℕ)). meet l p) e ∙ below_meets p more)
    by (inr (inr behind)) = swapped files places are f g p q (later files places are k j g f q p behind file' place' file place low' low (ap (meet p) e ∙ meets_below p more))

-- one that meets no place of a plain name meets none
unmet : (files : List FileSaid) (places : List (List (List ℕ))) → ArePlaces files places → (k : ℕ) (f : FileSaid) (own : List (List ℕ)) → slice_get files k ≡ Some f → own_place f.name ≡ Some own
    → ((j : ℕ) (g : FileSaid) (other : List (List ℕ)) → j < k → slice_get files j ≡ Some g → own_place g.name ≡ Some other → meet own other ≡ false)
    → (j : ℕ) (p : List (List ℕ)) → slice_get (take k places) j ≡ Some p → meet own p ≡ false
unmet files places are k f own file is alone j p taken = by (beside_cases (take j places) g (own_place g.name) refl)
  where
    before : j < k
    before = taken_below places k j p taken

    place : slice_get places j ≡ Some p
    place = sym (get_taken places k j before) ∙ taken

    there : (g : FileSaid) × (slice_get files j ≡ Some g)
    there = let l = get_below places j p place in let c = are.count in get_either files j (omega (arith, l, c))

    g : FileSaid
    g = there.0

    here : place_beside (take j places) g ≡ p
    here = placed files places are j g p there.1 place

    root : (path : List ℕ) × (own ≡ below_root path) × (list_all is_component (components path) ≡ true)
    root = own_is f.name (plain_path f.name) own refl is

    by : ((r : List (List ℕ)) × (own_place g.name ≡ Some r) × (list_any (meet r) (take j places) ≡ false) × (place_beside (take j places) g ≡ r)) ⊎ (place_beside (take j places) g ≡ other_place g.case) → meet own p ≡ false
    by (inl (r, plain, apart, e)) = ap (meet own) (sym here ∙ e) ∙ alone j g r before there.1 plain
    by (inr e) = ap (meet own) (sym here ∙ e) ∙ ap (λ (l : List (List ℕ)). meet l (other_place g.case)) root.1

pub are_kept : PlainNamesAreKept
are_kept files places are k f own file is alone =
    are.each k f file
    ∙ ap (λ o. Some (unless_met (take k places) f.case o)) is
    ∙ ap (λ t. Some (cond t (other_place f.case) own)) (no_pass (meet own) (take k places) (unmet files places are k f own file is alone))
