-- Names, each once.
use Rattle.std.proofs.Common.{◌≡◌, inl, inr, ℕ, Bool, true, false, not, cond, filter, find, map, List, [], ◌∷◌, ◌++◌, Option, None, Some, refl, sym, append_assoc, ap, subst, ◌∙◌}
use Rattle.std.specs.Option.{is_none, option_or}
use Rattle.std.specs.Str.{bytes_eq}
use Rattle.build_replies.specs.NameWords.{is_one_of}
use Rattle.std.specs.Prelude.{◌||◌}
use Rattle.std.proofs.lemmas.Bool.{cases_Bool}
use Rattle.std.proofs.lemmas.List.{append-nil, map-append}
use Rattle.std.proofs.lemmas.List.Folds.{find-append}
use Rattle.std.proofs.lemmas.Slice.Eq.{bytes_eq-Decides}
use Rattle.address_space.specs.Source.{ExecutableView, is_named}
use Rattle.core_notes.specs.FileList.{FileView}
use Rattle.build_replies.specs.Builds.{name_of, once}
use Rattle.build_replies.specs.TableWords.{is_new, path_of, row_of, with_name}

kept : {A : Type 0} (p r : Bool) (x : A) (xs ys : List A) → p ≡ r → xs ≡ ys → cond p (x ∷ xs) xs ≡ cond r (x ∷ ys) ys
kept p r x xs ys same is = ap (λ t. cond t (x ∷ xs) xs) same ∙ ap (λ zs. cond r (x ∷ zs) zs) is

-- what passes two tests
filter_twice : {A : Type 0} (p q r : A → Bool) → ((x : A) → cond (q x) (p x) false ≡ r x) → (xs : List A) → filter p (filter q xs) ≡ filter r xs
filter_twice p q r both [] = refl
filter_twice p q r both (x ∷ xs) =
    elim (cases_Bool (q x)) [
      | inl passes ↦
          ap (λ t. filter p (cond t (x ∷ filter q xs) (filter q xs))) passes
          ∙ kept (p x) (r x) x _ _ (sym (ap (λ t. cond t (p x) false) passes) ∙ both x) (filter_twice p q r both xs)
      | inr fails ↦
          ap (λ t. filter p (cond t (x ∷ filter q xs) (filter q xs))) fails ∙ filter_twice p q r both xs
          ∙ sym (ap (λ t. cond t (x ∷ filter r xs) (filter r xs)) (sym (both x) ∙ ap (λ t. cond t (p x) false) fails))
    ]

filter_all : {A : Type 0} (p : A → Bool) → ((x : A) → p x ≡ true) → (xs : List A) → filter p xs ≡ xs
filter_all p each [] = refl
filter_all p each (x ∷ xs) = kept (p x) true x _ _ (each x) (filter_all p each xs)

none_more : {A : Type 0} (t : Bool) (o : Option A) (x : A) → cond (not t) (is_none o) false ≡ is_none (option_or o (cond t (Some x) None))
none_more true None x = refl
none_more true (Some y) x = refl
none_more false None x = refl
none_more false (Some y) x = refl

-- the names that no row has, once there is a row of one name more
new_more : (rows : List ExecutableView) (name other : List ℕ) → cond (not (bytes_eq name other)) (is_new rows other) false ≡ is_new (rows ++ row_of name ∷ []) other
new_more rows name other =
    none_more (bytes_eq name other) (find (is_named other) rows) (row_of name) ∙ ap is_none (sym (find-append (is_named other) rows (row_of name ∷ [])))

-- a name that a row has takes none of the others away
new_still : (rows : List ExecutableView) (name other : List ℕ) → is_new rows name ≡ false → cond (not (bytes_eq name other)) (is_new rows other) false ≡ is_new rows other
new_still rows name other had =
    elim (cases_Bool (bytes_eq name other)) [
      | inl same ↦
          let is = (bytes_eq-Decides name other).0 same in
          ap (λ t. cond (not t) (is_new rows other) false) same ∙ sym had ∙ ap (is_new rows) is
      | inr differs ↦ ap (λ t. cond (not t) (is_new rows other) false) differs
    ]

names_new : (rows : List ExecutableView) (name : List ℕ) (names : List (List ℕ)) → is_new rows name ≡ true
    → filter (is_new rows) (once (name ∷ names)) ≡ name ∷ filter (is_new (rows ++ row_of name ∷ [])) (once names)
unfolding once
names_new rows name names new =
    kept (is_new rows name) true name _ _ new (filter_twice (is_new rows) (λ other. not (bytes_eq name other)) (is_new (rows ++ row_of name ∷ [])) (new_more rows name) (once names))

names_old : (rows : List ExecutableView) (name : List ℕ) (names : List (List ℕ)) → is_new rows name ≡ false
    → filter (is_new rows) (once (name ∷ names)) ≡ filter (is_new rows) (once names)
unfolding once
names_old rows name names had =
    kept (is_new rows name) false name _ _ had (filter_twice (is_new rows) (λ other. not (bytes_eq name other)) (is_new rows) (λ other. new_still rows name other had) (once names))

-- The names of all are those in the rows, and those that are left and in no row.
abbrev pub AreSoFar : List FileView → List ExecutableView → List FileView → Type 0
AreSoFar all rows left = once (map name_of all) ≡ map path_of rows ++ filter (is_new rows) (once (map name_of left))

pub names_start : (all left : List FileView) (rows : List ExecutableView) → rows ≡ [] → left ≡ all → AreSoFar all rows left
names_start all left rows none same =
    sym (ap (λ (fs : List FileView). once (map name_of fs)) same) ∙ sym (filter_all (is_new []) (λ name. refl) (once (map name_of left)))
    ∙ ap (λ rs. map path_of rs ++ filter (is_new rs) (once (map name_of left))) (sym none)

names_pushed : (all left rest : List FileView) (rows more : List ExecutableView) (f : FileView) → AreSoFar all rows left → left ≡ f ∷ rest
    → is_new rows f.name ≡ true → more ≡ rows ++ row_of f.name ∷ [] → AreSoFar all more rest
names_pushed all left rest rows more f before is new after =
    let others = filter (is_new (rows ++ row_of f.name ∷ [])) (once (map name_of rest)) in
    before ∙ ap (λ (fs : List FileView). map path_of rows ++ filter (is_new rows) (once (map name_of fs))) is
    ∙ ap (λ (ns : List (List ℕ)). map path_of rows ++ ns) (names_new rows f.name (map name_of rest) new)
    ∙ sym (ap (λ (ns : List (List ℕ)). ns ++ others) (map-append path_of rows (row_of f.name ∷ [])) ∙ append_assoc (map path_of rows) (f.name ∷ []) others)
    ∙ ap (λ rs. map path_of rs ++ filter (is_new rs) (once (map name_of rest))) (sym after)

names_passed : (all left rest : List FileView) (rows : List ExecutableView) (f : FileView) → AreSoFar all rows left → left ≡ f ∷ rest
    → is_new rows f.name ≡ false → AreSoFar all rows rest
names_passed all left rest rows f before is had =
    before ∙ ap (λ (fs : List FileView). map path_of rows ++ filter (is_new rows) (once (map name_of fs))) is
    ∙ ap (λ (ns : List (List ℕ)). map path_of rows ++ ns) (names_old rows f.name (map name_of rest) had)

-- one name went by
pub names_on : (all left rest : List FileView) (rows more : List ExecutableView) (f : FileView) → AreSoFar all rows left → left ≡ f ∷ rest
    → more ≡ with_name rows f.name → AreSoFar all more rest
names_on all left rest rows more f before is after =
    elim (cases_Bool (is_new rows f.name)) [
      | inl new ↦ names_pushed all left rest rows more f before is new (after ∙ ap (λ t. cond t (rows ++ row_of f.name ∷ []) rows) new)
      | inr had ↦
          let same = after ∙ ap (λ t. cond t (rows ++ row_of f.name ∷ []) rows) had in
          subst (λ rs. AreSoFar all rs rest) (sym same) (names_passed all left rest rows f before is had)
    ]

pub names_end : (all left : List FileView) (rows : List ExecutableView) → AreSoFar all rows left → left ≡ [] → map path_of rows ≡ once (map name_of all)
unfolding once
names_end all left rows before none =
    sym (before ∙ ap (λ (fs : List FileView). map path_of rows ++ filter (is_new rows) (once (map name_of fs))) none ∙ append-nil (map path_of rows))

one_more : (t : Bool) (x : ExecutableView) (o : Option ExecutableView) (more : Bool) → not (is_none o) ≡ more → not (is_none (cond t (Some x) o)) ≡ (t || more)
one_more true x o more is = refl
one_more false x o more is = is

-- a name that is not new is one of them
pub one_of : (rows : List ExecutableView) (name : List ℕ) → not (is_new rows name) ≡ is_one_of (map path_of rows) name
one_of [] name = refl
one_of (x ∷ xs) name = one_more (bytes_eq x.path name) x (find (is_named name) xs) (is_one_of (map path_of xs) name) (one_of xs name)
