-- Files and their places, by their place in the list.
use Rattle.std.proofs.Common.{◌≡◌, inl, inr, ◌⊎◌, ℕ, zero, suc, ◌+◌, ◌<◌, ◌≤◌, Bool, true, false, ◌||◌, cond, List, [], ◌∷◌, ◌++◌, get_or, length, map, take, Option, None, Some, option_map, refl, sym, ap, subst, ◌∙◌, arith}
use Rattle.std.proofs.lemmas.Bool.{or_from, or_parts}
use Rattle.std.proofs.lemmas.List.{length-append, map-append, take-append-le, take_at, take_more}
use Rattle.std.specs.List.{list_any, slice_get}
use Rattle.case_unpacking.specs.PlaceViews.{file_said, place_said}
use Rattle.case_unpacking.specs.Names.{plain_path}
use Rattle.case_unpacking.specs.Places.{ArePlaces, FileSaid, below_root, meet, other_place, own_place, place_beside, unless_met}
use Rattle.case_unpacking.specs.declared.places.NamedCase.{NamedCase}
use Rattle.case_unpacking.specs.declared.places.Place.{Place}

module _ {A : Type 0} where
  pub get_below : (xs : List A) (k : ℕ) (x : A) → slice_get xs k ≡ Some x → k < length xs
  get_below [] k x is = absurd cc
  get_below (y ∷ ys) zero x is = omega arith
  get_below (y ∷ ys) (suc k) x is = let l = get_below ys k x is in omega (arith, l)

  get_cases : (xs : List A) (x : A) (k : ℕ) (y : A) → slice_get (xs ++ x ∷ []) k ≡ Some y → (slice_get xs k ≡ Some y) ⊎ ((k ≡ length xs) × (x ≡ y))
  get_cases [] x zero y is = let e : x ≡ y = cc in inr (refl, e)
  get_cases [] x (suc k) y is = absurd cc
  get_cases (z ∷ zs) x zero y is = inl is
  get_cases (z ∷ zs) x (suc k) y is = by (get_cases zs x k y is)
    where
      by : (slice_get zs k ≡ Some y) ⊎ ((k ≡ length zs) × (x ≡ y)) → (slice_get zs k ≡ Some y) ⊎ ((suc k ≡ suc (length zs)) × (x ≡ y))
      by (inl old) = inl old
      by (inr (e, same)) = inr (ap suc e, same)

  get_more : (xs ys : List A) (k : ℕ) (x : A) → slice_get xs k ≡ Some x → slice_get (xs ++ ys) k ≡ Some x
  get_more [] ys k x is = absurd cc
  get_more (z ∷ zs) ys zero x is = is
  get_more (z ∷ zs) ys (suc k) x is = get_more zs ys k x is

  get_end : (xs : List A) (x : A) → slice_get (xs ++ x ∷ []) (length xs) ≡ Some x
  get_end [] x = refl
  get_end (z ∷ zs) x = get_end zs x

  pub get_taken : (xs : List A) (k j : ℕ) → j < k → slice_get (take k xs) j ≡ slice_get xs j
  get_taken xs zero j low = absurd (omega (arith, low))
  get_taken [] (suc k) j low = refl
  get_taken (x ∷ xs) (suc k) zero low = refl
  get_taken (x ∷ xs) (suc k) (suc j) low = get_taken xs k j (omega (arith, low))

  pub taken_below : (xs : List A) (k j : ℕ) (x : A) → slice_get (take k xs) j ≡ Some x → j < k
  taken_below xs zero j x is = absurd cc
  taken_below [] (suc k) j x is = absurd cc
  taken_below (y ∷ ys) (suc k) zero x is = omega arith
  taken_below (y ∷ ys) (suc k) (suc j) x is = let l = taken_below ys k j x is in omega (arith, l)

  -- the one at a place of those between two lists of one length
  pub get_either : (xs : List A) (k : ℕ) → k < length xs → (x : A) × (slice_get xs k ≡ Some x)
  get_either [] k low = absurd (omega (arith, low))
  get_either (y ∷ ys) zero low = (y, refl)
  get_either (y ∷ ys) (suc k) low = get_either ys k (omega (arith, low))

  -- none of them passes
  pub none_passes : (test : A → Bool) (xs : List A) (j : ℕ) (x : A) → list_any test xs ≡ false → slice_get xs j ≡ Some x → test x ≡ false
  none_passes test [] j x none is = absurd cc
  none_passes test (y ∷ ys) zero x none is = let e : y ≡ x = cc in ap test (sym e) ∙ (or_parts (test y) (list_any test ys) none).0
  none_passes test (y ∷ ys) (suc j) x none is = none_passes test ys j x (or_parts (test y) (list_any test ys) none).1 is

  pub no_pass : (test : A → Bool) (xs : List A) → ((j : ℕ) (x : A) → slice_get xs j ≡ Some x → test x ≡ false) → list_any test xs ≡ false
  no_pass test [] each = refl
  no_pass test (y ∷ ys) each = or_from (test y) (list_any test ys) (each zero y refl) (no_pass test ys (λ j x is. each (suc j) x is))

pub any_mapped : {A B : Type 0} (test : B → Bool) (f : A → B) (xs : List A) → list_any test (map f xs) ≡ list_any (λ x. test (f x)) xs
any_mapped test f [] = refl
any_mapped test f (x ∷ xs) = ap (λ (t : Bool). test (f x) || t) (any_mapped test f xs)

-- the place of a file whose path meets no place before
pub beside_own : (before : List (List (List ℕ))) (f : FileSaid) (path : List ℕ) → Some path ≡ plain_path f.name → list_any (meet (below_root path)) before ≡ false → below_root path ≡ place_beside before f
beside_own before f path is unmet =
    sym (ap (λ o. unless_met before f.case (option_map below_root o)) (sym is) ∙ ap (λ (t : Bool). cond t (other_place f.case) (below_root path)) unmet)

-- one more file
next_place : (fs : List FileSaid) (ps : List (List (List ℕ))) (f : FileSaid) → ArePlaces fs ps → ArePlaces (fs ++ f ∷ []) (ps ++ place_beside ps f ∷ [])
next_place fs ps f are = record {
  count = let a = length-append fs (f ∷ []) in let b = length-append ps (place_beside ps f ∷ []) in let c = are.count in omega (arith, a, b, c);
  each = λ k g is. by k g (get_cases fs f k g is);
}
  where
    here : (n : ℕ) (g : FileSaid) → n ≡ length ps → f ≡ g → slice_get (ps ++ place_beside ps f ∷ []) n ≡ Some (place_beside (take n (ps ++ place_beside ps f ∷ [])) g)
    here n g e same =
        ap (λ (i : ℕ). slice_get (ps ++ place_beside ps f ∷ []) i) e
        ∙ get_end ps (place_beside ps f)
        ∙ ap (λ (h : FileSaid). Some (place_beside ps h)) same
        ∙ ap (λ (l : List (List (List ℕ))). Some (place_beside l g)) (sym (take_at ps (place_beside ps f ∷ []) n (sym e)))

    by : (k : ℕ) (g : FileSaid) → (slice_get fs k ≡ Some g) ⊎ ((k ≡ length fs) × (f ≡ g)) → slice_get (ps ++ place_beside ps f ∷ []) k ≡ Some (place_beside (take k (ps ++ place_beside ps f ∷ [])) g)
    by k g (inl old) =
        let l = get_below fs k g old in
        let c = are.count in
        get_more ps (place_beside ps f ∷ []) k (place_beside (take k ps) g) (are.each k g old)
        ∙ ap (λ (l : List (List (List ℕ))). Some (place_beside l g)) (sym (take-append-le k ps (place_beside ps f ∷ []) (omega (arith, l, c))))
    by k g (inr (e, same)) = here k g (e ∙ sym are.count) same

pub step_place : (files : List NamedCase) (i : ℕ) (d : NamedCase) (old seen new : List Place) (p : Place) → i < length files → ArePlaces (map file_said (take i files)) (map place_said old)
    → place_said p ≡ place_beside (map place_said seen) (file_said (get_or files i d)) → seen ≡ old → new ≡ old ++ p ∷ [] → ArePlaces (map file_said (take (i + 1) files)) (map place_said new)
step_place files i d old seen new p low are beside same pushed =
    let placed : place_said p ≡ place_beside (map place_said old) (file_said (get_or files i d)) = beside ∙ ap (λ (l : List Place). place_beside (map place_said l) (file_said (get_or files i d))) same in
    let f = file_said (get_or files i d) in
    let more : map file_said (take (i + 1) files) ≡ map file_said (take i files) ++ f ∷ [] = ap (map file_said) (take_more files i d low) ∙ map-append file_said (take i files) (get_or files i d ∷ []) in
    let here : map place_said new ≡ map place_said old ++ place_beside (map place_said old) f ∷ [] =
    ap (map place_said) pushed ∙ map-append place_said old (p ∷ []) ∙ ap (λ (q : List (List ℕ)). map place_said old ++ q ∷ []) placed in
    subst (λ (fs : List FileSaid). ArePlaces fs (map place_said new)) (sym more)
    (subst (λ (ps : List (List (List ℕ))). ArePlaces (map file_said (take i files) ++ f ∷ []) ps) (sym here) (next_place (map file_said (take i files)) (map place_said old) f are))
