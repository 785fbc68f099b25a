-- What is found by the addresses of items is what is found among the items.
use Rattle.std.proofs.Common.{◌≡◌, ◌<◌, ◌≤◌, ℕ, suc, ◌+◌, ◌-◌, leb, ltb, cond, IfSome, Bool, true, false, List, [], ◌∷◌, map, length, get_or, Option, None, Some, AllPairs, refl, sym, ap, subst, ◌∙◌, arith, inl, inr}
use Rattle.std.specs.List.{slice_get}
use Rattle.std.specs.Option.{option_map}
use Rattle.std.proofs.lemmas.Bool.{cases_Bool, and_parts, leb-true, ltb-true}
use Rattle.std.proofs.lemmas.List as lists
use Rattle.std.proofs.lemmas.List.{length-map}
use Rattle.std.proofs.lemmas.Option.{same_Some, none-some}
use Rattle.std.proofs.Math.ListN.{get_or-map}
use Rattle.address_space.specs.Source.{first_from}
use Rattle.address_space.specs.Disjoint.{AreApart, Extent, is_within}
use Rattle.address_space.specs.Pieces.{same_number}
use Rattle.address_space.specs.Ranges.{IsAlike}
use Rattle.address_space.proofs.Rows.{element, passes}
use Rattle.address_space.proofs.Scanning.{first_yes, first_no}

-- what is found is at its number
placed : {A : Type 0} (test : A → Bool) (i : ℕ) (xs : List A) (d : ℕ × A) → first_from test i xs ≡ Some d → (i ≤ d.0) × (slice_get xs (d.0 - i) ≡ Some d.1)
placed test i [] d h = absurd (none-some d h)
placed {A = A} test i (x ∷ xs) d h = elim (cases_Bool (test x)) as (λ _. (i ≤ d.0) × (slice_get (x ∷ xs) (d.0 - i) ≡ Some d.1)) [
  | inl holds ↦
      let none : i - i ≡ 0 = omega arith in
      subst (λ (e : ℕ × A). (i ≤ e.0) × (slice_get (x ∷ xs) (e.0 - i) ≡ Some e.1)) (same_Some (i, x) d (sym (first_yes test i x xs holds) ∙ h)) (omega arith, ap (slice_get (x ∷ xs)) none)
  | inr fails ↦
      let rest = placed test (i + 1) xs d (sym (first_no test i x xs fails) ∙ h) in
      let from = rest.0 in
      let up : d.0 - i ≡ suc (d.0 - (i + 1)) = omega arith in
      (omega arith, ap (slice_get (x ∷ xs)) up ∙ rest.1)
]

pub numbered : {A : Type 0} (test : A → Bool) (xs : List A) (d : ℕ × A) → first_from test 0 xs ≡ Some d → slice_get xs d.0 ≡ Some d.1
numbered test xs d h =
    let all : d.0 - 0 ≡ d.0 = omega arith in
    subst (λ n. slice_get xs n ≡ Some d.1) all (placed test 0 xs d h).1

-- an item's extent, with its number
abbrev pub extent_at : {A : Type 0} → (A → Extent) → ℕ × A → ℕ × Extent
extent_at f d = (d.0, f d.1)

pub first_extent : {A : Type 0} (f : A → Extent) (test : Extent → Bool) (i : ℕ) (xs : List A) → first_from test i (map f xs) ≡ option_map (extent_at f) (first_from (λ x. test (f x)) i xs)
first_extent f test i [] = refl
first_extent {A = A} f test i (x ∷ xs) =
    elim (test (f x)) as (λ t. cond t (Some (i, f x)) (first_from test (i + 1) (map f xs)) ≡ option_map (extent_at f) (cond t (Some (i, x)) (first_from (λ y. test (f y)) (i + 1) xs))) [
      | true ↦ refl
      | false ↦ first_extent f test (i + 1) xs
    ]

-- the numbers are the same
same_numbers : {A : Type 0} (f : A → Extent) (o p : Option (ℕ × A)) → same_number (option_map (extent_at f) o) (option_map (extent_at f) p) ≡ same_number o p
same_numbers f None None = refl
same_numbers f None (Some e) = refl
same_numbers f (Some d) None = refl
same_numbers f (Some d) (Some e) = refl

module _ {A : Type 0} (f : A → Extent) (xs : List A) where
  abbrev reply : ℕ → Option (ℕ × A)
  reply a = first_from (λ x. is_within a (f x)) 0 xs

  -- the number tells the item
  same_item : (a b : ℕ) (o p : Option (ℕ × A)) → reply a ≡ o → reply b ≡ p → option_map (extent_at f) o ≡ option_map (extent_at f) p → o ≡ p
  same_item a b None None g h e = refl
  same_item a b None (Some y) g h e = absurd (none-some (extent_at f y) e)
  same_item a b (Some x) None g h e = absurd (none-some (extent_at f x) (sym e))
  same_item a b (Some x) (Some y) g h e =
      let number : x.0 ≡ y.0 = ap (λ (d : ℕ × Extent). d.0) (same_Some (extent_at f x) (extent_at f y) e) in
      let item : x.1 ≡ y.1 = same_Some x.1 y.1 (sym (numbered (λ z. is_within a (f z)) xs x g) ∙ ap (slice_get xs) number ∙ numbered (λ z. is_within b (f z)) xs y h) in
      ap (λ n. Some (n, x.1)) number ∙ ap (λ z. Some (y.0, z)) item

  pub alike_items : (a limit n : ℕ) → IsAlike (λ b. first_from (is_within b) 0 (map f xs)) a limit n → IsAlike reply a limit n
  alike_items a limit n alike =
      let here : (b : ℕ) → first_from (is_within b) 0 (map f xs) ≡ option_map (extent_at f) (reply b) = λ b. first_extent f (is_within b) 0 xs in
      record {
        some = alike.some;
        within = alike.within;
        same = λ k h. same_item (a + k) a (reply (a + k)) (reply a) refl refl (sym (here (a + k)) ∙ alike.same k h ∙ here a);
        longest = λ h. sym (same_numbers f (reply a) (reply (a + n))) ∙ ap (λ o. same_number o (option_map (extent_at f) (reply (a + n)))) (sym (here a)) ∙ ap (same_number (first_from (is_within a) 0 (map f xs))) (sym (here (a + n))) ∙ alike.longest h;
      }

  -- nothing is found
  pub none_found : (a : ℕ) → None ≡ first_from (is_within a) 0 (map f xs) → reply a ≡ None
  none_found a h = decided (reply a) refl
    where
      decided : (o : Option (ℕ × A)) → reply a ≡ o → reply a ≡ None
      decided None g = g
      decided (Some d) g = absurd (none-some (extent_at f d) (h ∙ first_extent f (is_within a) 0 xs ∙ ap (option_map (extent_at f)) g))

  -- the item of the number that is found
  pub item_found : (a : ℕ) (e : ℕ × Extent) → Some e ≡ first_from (is_within a) 0 (map f xs) → reply a ≡ option_map (λ x. (e.0, x)) (slice_get xs e.0)
  item_found a e h = decided (reply a) refl
    where
      decided : (o : Option (ℕ × A)) → reply a ≡ o → reply a ≡ option_map (λ x. (e.0, x)) (slice_get xs e.0)
      decided None g = absurd (none-some e (sym (h ∙ first_extent f (is_within a) 0 xs ∙ ap (option_map (extent_at f)) g)))
      decided (Some d) g =
          let number : e.0 ≡ d.0 = ap (λ (x : ℕ × Extent). x.0) (same_Some e (extent_at f d) (h ∙ first_extent f (is_within a) 0 xs ∙ ap (option_map (extent_at f)) g)) in
          g ∙ sym (ap (λ n. option_map (λ (x : A). (n, x)) (slice_get xs n)) number ∙ ap (option_map (λ (x : A). (d.0, x))) (numbered (λ z. is_within a (f z)) xs d g))

  -- the extents are disjoint where the items are
  pub items_apart : AllPairs (AreApart is_within) (map f xs) → AllPairs (AreApart (λ a x. is_within a (f x))) xs
  items_apart all i j d less h =
      let long : j < length (map f xs) = rw length-map h in
      subst (λ (x : Extent). AreApart is_within x (f (get_or xs j d))) (get_or-map f xs i d) (subst (λ (y : Extent). AreApart is_within (get_or (map f xs) i (f d)) y) (get_or-map f xs j d) (all i j (f d) less long))

  pub extents_apart : AllPairs (AreApart (λ a x. is_within a (f x))) xs → AllPairs (AreApart is_within) (map f xs)
  extents_apart all i j d less h =
      let bound : j < length xs = rw (← length-map xs f) h in
      let z = element xs j bound in
      let first = lists.get_or-map f xs i z d (omega arith) in
      let second = lists.get_or-map f xs j z d bound in
      subst (λ (x : Extent). AreApart is_within x (get_or (map f xs) j d)) (sym first) (subst (λ (y : Extent). AreApart is_within (f (get_or xs i z)) y) (sym second) (all i j z less bound))

-- the items of those with a number
pub items_of : {A : Type 0} (n : ℕ) (o : Option A) → option_map (λ (e : ℕ × A). e.1) (option_map (λ x. (n, x)) o) ≡ o
items_of n None = refl
items_of n (Some x) = refl

-- the view of an item that is found has the address
pub has_extent : {A X : Type 0} (f : A → Extent) (view : X → A) (xs : List A) (a : ℕ) (r : Option X) → option_map view r ≡ option_map (λ (e : ℕ × A). e.1) (first_from (λ x. is_within a (f x)) 0 xs) → IfSome r (λ x. ((f (view x)).start ≤ a) × (a < (f (view x)).past))
has_extent f view xs a None h = tt
has_extent {A = A} f view xs a (Some x) h = decided (first_from (λ y. is_within a (f y)) 0 xs) refl
  where
    decided : (o : Option (ℕ × A)) → first_from (λ y. is_within a (f y)) 0 xs ≡ o → ((f (view x)).start ≤ a) × (a < (f (view x)).past)
    decided None g = absurd (none-some (view x) (sym (h ∙ ap (option_map (λ (e : ℕ × A). e.1)) g)))
    decided (Some d) g =
        let same : view x ≡ d.1 = same_Some (view x) d.1 (h ∙ ap (option_map (λ (e : ℕ × A). e.1)) g) in
        let parts = and_parts (leb (f d.1).start a) (ltb a (f d.1).past) (passes (λ y. is_within a (f y)) 0 xs d g) in
        subst (λ y. ((f y).start ≤ a) × (a < (f y).past)) (sym same) (leb-true (f d.1).start a parts.0, ltb-true a (f d.1).past parts.1)

pub has_start : {A X : Type 0} (f : A → Extent) (view : X → ℕ × A) (xs : List A) (a : ℕ) (r : Option X) → option_map view r ≡ first_from (λ x. is_within a (f x)) 0 xs → IfSome r (λ x. (f (view x).1).start ≤ a)
has_start f view xs a None h = tt
has_start {A = A} f view xs a (Some x) h = (has_extent f (λ y. (view y).1) xs a (Some x) (ap (option_map (λ (e : ℕ × A). e.1)) h)).0
