-- The first executable of a path, by its number.
use Rattle.std.proofs.Common.{◌≡◌, inl, inr, ℕ, suc, ◌+◌, Bool, true, false, cond, List, [], ◌∷◌, ◌++◌, length, Option, None, Some, refl, sym, ap, ◌∙◌, arith}
use Rattle.std.specs.List.{find, slice_get}
use Rattle.std.specs.Option.{MatchOption, is_some, option_map, option_or, option_and_then}
use Rattle.std.specs.Str.{bytes_eq}
use Rattle.std.proofs.lemmas.Bool.{cases_Bool, cond-true, cond-false, false≢true}
use Rattle.std.proofs.lemmas.Slice.Eq.{bytes_eq-Decides}
use Rattle.address_space.specs.Source.{ExecutableView, first_from, is_named}
use Rattle.address_space.specs.PathWords.{AreNumbered, number_in}
use Rattle.address_space.specs.declared.by_path.ByPath.{ByPath}
use Rattle.address_space.proofs.Extents.{numbered}

abbrev number_of : {A : Type 0} → Option (ℕ × A) → Option ℕ
number_of {A} o = option_map (λ (e : ℕ × A). e.0) o

-- one more after those of a list
found_more : {A : Type 0} (test : A → Bool) (i : ℕ) (xs : List A) (x : A)
    → number_of (first_from test i (xs ++ x ∷ [])) ≡ option_or (number_of (first_from test i xs)) (cond (test x) (Some (i + length xs)) None)
found_more {A = A} test i [] x =
    let same : i ≡ i + 0 = omega arith in
    elim (test x) as (λ t. number_of (cond t (Some (i, x)) (first_from test (i + 1) [])) ≡ cond t (Some (i + 0)) None) [ true ↦ ap (λ (n : ℕ). Some n) same | false ↦ refl ]
found_more {A = A} test i (y ∷ ys) x =
    let same : (i + 1) + length ys ≡ i + suc (length ys) = omega arith in
    elim (test y) as (λ t. number_of (cond t (Some (i, y)) (first_from test (i + 1) (ys ++ x ∷ []))) ≡ option_or (number_of (cond t (Some (i, y)) (first_from test (i + 1) ys))) (cond (test x) (Some (i + suc (length ys))) None)) [
      | true ↦ refl
      | false ↦ found_more test (i + 1) ys x ∙ ap (λ (n : ℕ). option_or (number_of (first_from test (i + 1) ys)) (cond (test x) (Some n) None)) same
    ]

or_none : (o : Option ℕ) → o ≡ option_or o None
or_none None = refl
or_none (Some n) = refl

or_first : (o p : Option ℕ) → true ≡ is_some o → o ≡ option_or o p
or_first None p is = absurd (false≢true (sym is))
or_first (Some n) p is = refl

or_other : (o p : Option ℕ) → false ≡ is_some o → p ≡ option_or o p
or_other None p is = refl
or_other (Some n) p is = absurd (false≢true is)

module _ (all : List ExecutableView) (one : ExecutableView) (number : ℕ) (is_number : number ≡ length all) where
  later : (name : List ℕ) → number_of (first_from (is_named name) 0 (all ++ one ∷ [])) ≡ option_or (number_of (first_from (is_named name) 0 all)) (cond (bytes_eq one.path name) (Some number) None)
  later name =
      let last : 0 + length all ≡ number = omega (arith, is_number) in
      found_more (is_named name) 0 all one ∙ ap (λ (n : ℕ). option_or (number_of (first_from (is_named name) 0 all)) (cond (bytes_eq one.path name) (Some n) None)) last

  -- a path that the table has keeps its number
  pub had : (p : ByPath) → true ≡ is_some (number_in p one.path) → AreNumbered p all → AreNumbered p (all ++ one ∷ [])
  had p has are name = are name ∙ elim (cases_Bool (bytes_eq one.path name)) as (λ _. number_of (first_from (is_named name) 0 all) ≡ number_of (first_from (is_named name) 0 (all ++ one ∷ []))) [
    | inl same ↦
        let path = (bytes_eq-Decides one.path name).0 same in
        or_first (number_of (first_from (is_named name) 0 all)) _ (has ∙ ap (λ n. is_some (number_in p n)) path ∙ ap is_some (are name)) ∙ sym (later name)
    | inr other ↦ or_none _ ∙ ap (option_or (number_of (first_from (is_named name) 0 all))) (sym (cond-false _ _ _ other)) ∙ sym (later name)
  ]

  -- and a new one gets the last
  pub has_now : (p q : ByPath) → false ≡ is_some (number_in p one.path) → ((name : List ℕ) → number_in q name ≡ cond (bytes_eq one.path name) (Some number) (number_in p name))
      → AreNumbered p all → AreNumbered q (all ++ one ∷ [])
  has_now p q none update are name = update name ∙ elim (cases_Bool (bytes_eq one.path name)) as (λ _. cond (bytes_eq one.path name) (Some number) (number_in p name) ≡ number_of (first_from (is_named name) 0 (all ++ one ∷ []))) [
    | inl same ↦
        let path = (bytes_eq-Decides one.path name).0 same in
        cond-true _ _ _ same
        ∙ or_other (number_of (first_from (is_named name) 0 all)) (Some number) (none ∙ ap (λ n. is_some (number_in p n)) path ∙ ap is_some (are name))
        ∙ ap (option_or (number_of (first_from (is_named name) 0 all))) (sym (cond-true _ _ _ same)) ∙ sym (later name)
    | inr other ↦
        cond-false _ _ _ other ∙ are name ∙ or_none _
        ∙ ap (option_or (number_of (first_from (is_named name) 0 all))) (sym (cond-false _ _ _ other)) ∙ sym (later name)
  ]

first_find : {A : Type 0} (test : A → Bool) (i : ℕ) (xs : List A) → option_map (λ (e : ℕ × A). e.1) (first_from test i xs) ≡ find test xs
first_find test i [] = refl
first_find {A = A} test i (x ∷ xs) = elim (test x) as (λ t. option_map (λ (e : ℕ × A). e.1) (cond t (Some (i, x)) (first_from test (i + 1) xs)) ≡ cond t (Some x) (find test xs)) [ true ↦ refl | false ↦ first_find test (i + 1) xs ]

by_number : {A : Type 0} (test : A → Bool) (xs : List A) (o : Option (ℕ × A)) → first_from test 0 xs ≡ o → option_and_then (λ n. slice_get xs n) (number_of o) ≡ find test xs
by_number {A = A} test xs None is = ap (option_map (λ (e : ℕ × A). e.1)) (sym is) ∙ first_find test 0 xs
by_number {A = A} test xs (Some d) is = numbered test xs d is ∙ ap (option_map (λ (e : ℕ × A). e.1)) (sym is) ∙ first_find test 0 xs

found_by : {A : Type 0} (test : A → Bool) (xs : List A) (o : Option ℕ) → o ≡ number_of (first_from test 0 xs) → option_and_then (λ n. slice_get xs n) o ≡ find test xs
found_by test xs o is = ap (option_and_then (λ n. slice_get xs n)) is ∙ by_number test xs (first_from test 0 xs) refl

-- the item at the number of the first that passes is that
pub there_is : {A : Type 0} (test : A → Bool) (xs : List A) (o : Option ℕ) → o ≡ number_of (first_from test 0 xs) → MatchOption o (find test xs ≡ None) (λ n. slice_get xs n ≡ find test xs)
there_is test xs None is = sym (found_by test xs None is)
there_is test xs (Some n) is = found_by test xs (Some n) is
