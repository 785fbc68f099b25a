-- The executables that are used, file by file: each is of the build that was mapped, and no debug file.
use Rattle.std.proofs.Common.{◌≡◌, ◌<◌, ◌⊎◌, inl, inr, ℕ, ◌+◌, Bool, true, false, not, cond, List, [], ◌∷◌, ◌++◌, take, map, length, get_or, filter, find, Option, None, Some, refl, sym, append_assoc, ap, subst, ◌∙◌}
use Rattle.std.specs.Prelude.{◌&&◌}
use Rattle.std.specs.List.{AllByRecursion, flat_map}
use Rattle.std.proofs.lemmas.Bool.{cases_Bool, false≢true, and_parts}
use Rattle.std.proofs.lemmas.List.{append-nil, map-append, take_more}
use Rattle.std.proofs.lemmas.Slice.Eq.{bytes_eq-Decides}
use Rattle.address_space.specs.Source.{ExecutableView, is_named}
use Rattle.build_ids.specs.BuildId.{build_id_of, id_among, notes_of}
use Rattle.build_ids.specs.BuildName.{build_name, debug_name, has_name}
use Rattle.build_ids.specs.DebugFile.{debug_id_of, is_debug}
use Rattle.memory_replies.specs.Memory.{is_attached}
use Rattle.build_replies.specs.Builds.{NamedId, id_named, told_as}
use Rattle.build_replies.specs.ByBuild.{Chosen, agrees, as_file, build_first, build_stored, by_build, by_its_path, by_path, chosen, debug_by, debug_of, debug_of_build, debug_stored, has_told_id, if_agrees, if_debug_of, is_debug_of, is_executable, is_id, none, other, others_by, stored_as, used_by, used_executable}
use Rattle.build_replies.specs.Choosing.{Choice, choice_of, debugs_of, debugs_under, if_stored, others_of, under_names, used_of}
use Rattle.build_replies.specs.ChoosingWords.{with_chosen, with_debug}
use Rattle.build_replies.specs.Mapped.{id_view}
use Rattle.build_replies.specs.declared.ids.FrontId.{FrontId}

abbrev all : List ExecutableView → List ExecutableView → List ExecutableView → Choice
all used others debugs = record { used = used; others = others; debugs = debugs }

flat_more : {A B : Type 0} (f : A → List B) (xs : List A) (x : A) → flat_map f (xs ++ x ∷ []) ≡ flat_map f xs ++ f x
flat_more f [] x = append-nil (f x)
flat_more f (y ∷ ys) x = ap (λ zs. f y ++ zs) (flat_more f ys x) ∙ sym (append_assoc (f y) (flat_map f ys) (f x))

-- one file more
choice_more : (stored : List ExecutableView) (told : List NamedId) (t : NamedId)
    → choice_of (told ++ t ∷ []) stored ≡ with_debug t.0 (debug_of stored (chosen stored t.1 t.0)) (with_chosen t.0 (chosen stored t.1 t.0) (choice_of told stored))
choice_more stored told t =
    let k = chosen stored t.1 t.0 in
    ap (λ us. all us (others_of stored (told ++ t ∷ [])) (debugs_of stored (told ++ t ∷ []))) (flat_more (λ (u : NamedId). used_by u.0 (chosen stored u.1 u.0)) told t)
    ∙ ap (λ os. all (used_of stored told ++ used_by t.0 k) os (debugs_of stored (told ++ t ∷ []))) (flat_more (λ (u : NamedId). others_by u.0 (chosen stored u.1 u.0)) told t)
    ∙ ap (all (used_of stored told ++ used_by t.0 k) (others_of stored told ++ others_by t.0 k)) (flat_more (λ (u : NamedId). debug_by u.0 (debug_of stored (chosen stored u.1 u.0))) told t)

-- those that went by, and the next
pub next_chosen : (stored : List ExecutableView) (files : List FrontId) (i : ℕ) (f : FrontId) (k : Chosen) (d : Option ExecutableView) (old mid new : Choice) → i < length files → f ≡ get_or files i f
    → old ≡ choice_of (map id_view (take i files)) stored → k ≡ chosen stored (id_view f).1 (id_view f).0 → d ≡ debug_of stored k → mid ≡ with_chosen (id_view f).0 k old → new ≡ with_debug (id_view f).0 d mid
    → new ≡ choice_of (map id_view (take (i + 1) files)) stored
next_chosen stored files i f k d old mid new within is before picked debug next_is after =
    let path = (id_view f).0 in
    let by = chosen stored (id_view f).1 path in
    let next : map id_view (take (i + 1) files) ≡ map id_view (take i files) ++ id_view f ∷ [] =
    ap (map id_view) (take_more files i f within)
    ∙ map-append id_view (take i files) (get_or files i f ∷ [])
    ∙ ap (λ (y : FrontId). map id_view (take i files) ++ id_view y ∷ []) (sym is) in
    after ∙ ap (with_debug path d) next_is
    ∙ ap (λ (x : Option ExecutableView). with_debug path x (with_chosen path k old)) (debug ∙ ap (debug_of stored) picked)
    ∙ ap (λ (c : Choice). with_debug path (debug_of stored by) (with_chosen path k c)) before
    ∙ ap (λ (j : Chosen). with_debug path (debug_of stored by) (with_chosen path j (choice_of (map id_view (take i files)) stored))) picked
    ∙ sym (choice_more stored (map id_view (take i files)) (id_view f))
    ∙ ap (λ (ts : List NamedId). choice_of ts stored) (sym next)

-- of a file that has nothing nothing is chosen
nothing_more : (stored : List ExecutableView) (path : List ℕ) (c : Choice) → with_debug path (debug_of stored none) (with_chosen path none c) ≡ c
unfolding debug_of
nothing_more stored path c =
    ap (λ us. all us (c.others ++ []) (c.debugs ++ [])) (append-nil c.used)
    ∙ ap (λ os. all c.used os (c.debugs ++ [])) (append-nil c.others)
    ∙ ap (all c.used c.others) (append-nil c.debugs)

pub chosen_without : (stored : List ExecutableView) (told : List NamedId) (t : NamedId) → chosen stored t.1 t.0 ≡ none → choice_of told stored ≡ choice_of (told ++ t ∷ []) stored
chosen_without stored told t is =
    sym (choice_more stored told t ∙ ap (λ k. with_debug t.0 (debug_of stored k) (with_chosen t.0 k (choice_of told stored))) is ∙ nothing_more stored t.0 (choice_of told stored))

-- the choice for some files is the choice for those before, and for one more
pub chosen_as : (stored : List ExecutableView) (old new : List NamedId) (files : List FrontId) (i : ℕ) (f : FrontId) → i < length files → f ≡ get_or files i f
    → choice_of old stored ≡ choice_of (map id_view (take i files)) stored → choice_of new stored ≡ choice_of (old ++ id_view f ∷ []) stored
    → choice_of new stored ≡ choice_of (map id_view (take (i + 1) files)) stored
chosen_as stored old new files i f within is before after =
    let t = id_view f in
    let next : map id_view (take (i + 1) files) ≡ map id_view (take i files) ++ t ∷ [] =
    ap (map id_view) (take_more files i f within)
    ∙ map-append id_view (take i files) (get_or files i f ∷ [])
    ∙ ap (λ (y : FrontId). map id_view (take i files) ++ id_view y ∷ []) (sym is) in
    after ∙ choice_more stored old t
    ∙ ap (λ (c : Choice). with_debug t.0 (debug_of stored (chosen stored t.1 t.0)) (with_chosen t.0 (chosen stored t.1 t.0) c)) before
    ∙ sym (choice_more stored (map id_view (take i files)) t)
    ∙ ap (λ (ts : List NamedId). choice_of ts stored) (sym next)

-- The ID that is given for the file of its name is its own.
abbrev pub IsOwn : List ExecutableView → ExecutableView → Type 0
IsOwn fronts x = (id : List ℕ) → id_named fronts x.path ≡ Some id → build_id_of x.image ≡ Some id

own_by : (id : List ℕ) (o : Option (List ℕ)) → is_id id o ≡ true → o ≡ Some id
own_by id None h = absurd (false≢true h)
own_by id (Some own) h = ap Some (sym ((bytes_eq-Decides id own).0 h))

-- an image that agrees has that build ID
pub agreed_id : (id image : List ℕ) → agrees (Some id) image ≡ true → build_id_of image ≡ Some id
unfolding agrees
agreed_id id image h = own_by id (build_id_of image) (and_parts (not (is_debug image)) (is_id id (build_id_of image)) (and_parts (is_executable image) (not (is_debug image) && is_id id (build_id_of image)) h).1).1

not_true : (t : Bool) → not t ≡ true → t ≡ false
not_true false h = refl
not_true true h = absurd (false≢true h)

pub agreed_code : (id : Option (List ℕ)) (image : List ℕ) → agrees id image ≡ true → is_debug image ≡ false
unfolding agrees
agreed_code id image h = not_true (is_debug image) (and_parts (not (is_debug image)) (has_told_id id image) (and_parts (is_executable image) (not (is_debug image) && has_told_id id image) h).1).0

-- A property of each image that agrees is a property of each executable that is used for a file.
module _ (P : ExecutableView → Type 0) (id : Option (List ℕ)) (path : List ℕ) (of_agreed : (x : ExecutableView) → agrees id x.image ≡ true → P (as_file path x)) where
  of_path : (o : Option ExecutableView) → AllByRecursion P (used_by path (by_its_path id o))
  of_path None = tt
  of_path (Some x) =
      elim (cases_Bool (agrees id x.image)) [
        | inl passes ↦ subst (λ t. AllByRecursion P (used_by path (cond t (by_path x) (cond (is_executable x.image) (other x) none)))) (sym passes) (of_agreed x passes, tt)
        | inr fails ↦
            subst (λ t. AllByRecursion P (used_by path (cond t (by_path x) (cond (is_executable x.image) (other x) none)))) (sym fails) (of_other (is_executable x.image) x)
      ]
    where
      of_other : (t : Bool) (y : ExecutableView) → AllByRecursion P (used_by path (cond t (other y) none))
      of_other true y = tt
      of_other false y = tt

  of_first : (o : Option ExecutableView) (k : Chosen) → ((x : ExecutableView) → o ≡ Some x → agrees id x.image ≡ true) → AllByRecursion P (used_by path k) → AllByRecursion P (used_by path (build_first o k))
  of_first None k found rest = rest
  of_first (Some x) k found rest = (of_agreed x (found x refl), tt)

found_agrees : (id : Option (List ℕ)) (o : Option ExecutableView) (x : ExecutableView) → if_agrees id o ≡ Some x → agrees id x.image ≡ true
found_agrees id None x is = cc
found_agrees id (Some y) x is =
    elim (cases_Bool (agrees id y.image)) [
      | inl passes ↦ (let found : Some y ≡ Some x = sym (ap (λ t. cond t (Some y) None) passes) ∙ is in let same : y ≡ x = cc in subst (λ (z : ExecutableView). agrees id z.image ≡ true) same passes)
      | inr fails ↦ (let missing : None ≡ Some x = sym (ap (λ t. cond t (Some y) None) fails) ∙ is in cc)
    ]

stored_agrees : (stored : List ExecutableView) (id : Option (List ℕ)) (x : ExecutableView) → build_stored stored id ≡ Some x → agrees id x.image ≡ true
stored_agrees stored None x is = cc
stored_agrees stored (Some id) x is =
    elim (cases_Bool (has_name id)) [
      | inl named ↦ found_agrees (Some id) (stored_as stored (build_name id)) x (sym (ap (λ t. cond t (if_agrees (Some id) (stored_as stored (build_name id))) None) named) ∙ is)
      | inr unnamed ↦ (let missing : None ≡ Some x = sym (ap (λ t. cond t (if_agrees (Some id) (stored_as stored (build_name id))) None) unnamed) ∙ is in cc)
    ]

pub each_used : (P : ExecutableView → Type 0) (stored : List ExecutableView) (told : List NamedId) → AllByRecursion (λ (t : NamedId). (x : ExecutableView) → agrees t.1 x.image ≡ true → P (as_file t.0 x)) told → AllByRecursion P (used_of stored told)
unfolding chosen
each_used P stored [] all = tt
each_used P stored (t ∷ ts) all =
    all_append (used_by t.0 (chosen stored t.1 t.0)) (used_of stored ts)
    (of_first P t.1 t.0 all.0 (build_stored stored t.1) (by_its_path t.1 (stored_as stored t.0)) (stored_agrees stored t.1) (of_path P t.1 t.0 all.0 (stored_as stored t.0)))
    (each_used P stored ts all.1)
  where
    all_append : (xs ys : List ExecutableView) → AllByRecursion P xs → AllByRecursion P ys → AllByRecursion P (xs ++ ys)
    all_append [] ys first more = more
    all_append (x ∷ xs) ys first more = (first.0, all_append xs ys first.1 more)

-- no file of another build is used
pub each_own : (fronts stored : List ExecutableView) (names : List (List ℕ)) → AllByRecursion (IsOwn fronts) (used_of stored (map (told_as fronts) names))
each_own fronts stored names = each_used (IsOwn fronts) stored (map (told_as fronts) names) (all names)
  where
    all : (ns : List (List ℕ)) → AllByRecursion (λ (t : NamedId). (x : ExecutableView) → agrees t.1 x.image ≡ true → IsOwn fronts (as_file t.0 x)) (map (told_as fronts) ns)
    all [] = tt
    all (n ∷ ns) = ((λ x passes id told. agreed_id id x.image (subst (λ o. agrees o x.image ≡ true) told passes)), all ns)

-- no debug file is used
abbrev pub HasCode : ExecutableView → Type 0
HasCode x = is_debug x.image ≡ false

pub each_with_code : (stored : List ExecutableView) (told : List NamedId) → AllByRecursion HasCode (used_of stored told)
each_with_code stored told = each_used HasCode stored told (all told)
  where
    all : (ts : List NamedId) → AllByRecursion (λ (t : NamedId). (x : ExecutableView) → agrees t.1 x.image ≡ true → HasCode (as_file t.0 x)) ts
    all [] = tt
    all (t ∷ ts) = ((λ x passes. agreed_code t.1 x.image passes), all ts)

-- If no ID is given, and no debug file is stored, the path decides.
code_found : (p : ExecutableView → Bool) (xs : List ExecutableView) (x : ExecutableView) → AllByRecursion HasCode xs → find p xs ≡ Some x → HasCode x
code_found p [] x all is = cc
code_found p (y ∷ ys) x all is =
    elim (cases_Bool (p y)) [
      | inl passed ↦ (let found : Some y ≡ Some x = sym (ap (λ t. cond t (Some y) (find p ys)) passed) ∙ is in let same : y ≡ x = cc in subst HasCode same all.0)
      | inr failed ↦ code_found p ys x all.1 (sym (ap (λ t. cond t (Some y) (find p ys)) failed) ∙ is)
    ]

-- of one that is not used, as it is stored under the path, there is no other
by_test : Bool → Bool → ExecutableView → Chosen
by_test t debug x = cond (t && (not debug && true)) (by_path x) (cond t (other x) none)

test_used : (t : Bool) (name : List ℕ) (x : ExecutableView) (us : List ExecutableView) → used_by name (by_test t false x) ++ us ≡ cond t (as_file name x ∷ us) us
unfolding by_test
test_used true name x us = refl
test_used false name x us = refl

test_others : (t : Bool) (name : List ℕ) (x : ExecutableView) → others_by name (by_test t false x) ≡ []
unfolding by_test
test_others true name x = refl
test_others false name x = refl

-- one whose headers have a fault has no ID, and so no debug file
test_debug : (stored : List ExecutableView) (x : ExecutableView) → debug_of stored (by_test (is_executable x.image) false x) ≡ debug_of_build stored (Some x)
unfolding debug_of by_test build_id_of
test_debug stored x =
    elim (cases_Bool (is_executable x.image)) [
      | inl sound ↦ ap (λ t. debug_of_build stored (used_executable (by_test t false x))) sound
      | inr faulty ↦
          ap (λ t. debug_of_build stored (used_executable (by_test t false x))) faulty
          ∙ ap (λ t. debug_stored stored (cond t (id_among (notes_of x.image)) None)) (sym faulty)
    ]

unknown_is : (x : ExecutableView) → by_its_path None (Some x) ≡ by_test (is_executable x.image) (is_debug x.image) x
unfolding agrees by_test
unknown_is x = refl

module _ (fronts stored : List ExecutableView) (unknown : (path : List ℕ) → id_named fronts path ≡ None) (codes : AllByRecursion HasCode stored) where
  name_unknown : (n : List ℕ) → chosen stored (id_named fronts n) n ≡ by_its_path None (stored_as stored n)
  unfolding chosen
  name_unknown n = ap (λ o. build_first (build_stored stored o) (by_its_path o (stored_as stored n))) (unknown n)

  one_used : (n : List ℕ) (o : Option ExecutableView) (us : List ExecutableView) → stored_as stored n ≡ o → used_by n (by_its_path None o) ++ filter is_attached us ≡ filter is_attached (if_stored n o ++ us)
  one_used n None us is = refl
  one_used n (Some x) us is =
      ap (λ k. used_by n k ++ filter is_attached us) (unknown_is x ∙ ap (λ d. by_test (is_executable x.image) d x) (code_found (is_named n) stored x codes is))
      ∙ test_used (is_executable x.image) n x (filter is_attached us)

  no_other : (n : List ℕ) (o : Option ExecutableView) → stored_as stored n ≡ o → others_by n (by_its_path None o) ≡ []
  no_other n None is = refl
  no_other n (Some x) is =
      ap (others_by n) (unknown_is x ∙ ap (λ d. by_test (is_executable x.image) d x) (code_found (is_named n) stored x codes is))
      ∙ test_others (is_executable x.image) n x

  used_plain : (names : List (List ℕ)) → used_of stored (map (told_as fronts) names) ≡ filter is_attached (under_names stored names)
  used_plain [] = refl
  used_plain (n ∷ ns) =
      ap (λ k. used_by n k ++ used_of stored (map (told_as fronts) ns)) (name_unknown n)
      ∙ ap (λ us. used_by n (by_its_path None (stored_as stored n)) ++ us) (used_plain ns)
      ∙ one_used n (stored_as stored n) (under_names stored ns) refl

  others_plain : (names : List (List ℕ)) → others_of stored (map (told_as fronts) names) ≡ []
  others_plain [] = refl
  others_plain (n ∷ ns) =
      ap (λ k. others_by n k ++ others_of stored (map (told_as fronts) ns)) (name_unknown n)
      ∙ ap (λ os. os ++ others_of stored (map (told_as fronts) ns)) (no_other n (stored_as stored n) refl)
      ∙ others_plain ns

  one_debug : (n : List ℕ) (o : Option ExecutableView) → stored_as stored n ≡ o → debug_of stored (by_its_path None o) ≡ debug_of_build stored o
  unfolding debug_of
  one_debug n None is = refl
  one_debug n (Some x) is =
      ap (λ k. debug_of stored k) (unknown_is x ∙ ap (λ d. by_test (is_executable x.image) d x) (code_found (is_named n) stored x codes is))
      ∙ test_debug stored x

  debugs_plain : (names : List (List ℕ)) → debugs_of stored (map (told_as fronts) names) ≡ debugs_under stored names
  debugs_plain [] = refl
  debugs_plain (n ∷ ns) =
      ap (λ k. debug_by n (debug_of stored k) ++ debugs_of stored (map (told_as fronts) ns)) (name_unknown n)
      ∙ ap (λ d. debug_by n d ++ debugs_of stored (map (told_as fronts) ns)) (one_debug n (stored_as stored n) refl)
      ∙ ap (λ ds. debug_by n (debug_of_build stored (stored_as stored n)) ++ ds) (debugs_plain ns)

  pub choice_plain : (names : List (List ℕ)) → choice_of (map (told_as fronts) names) stored ≡ record { used = filter is_attached (under_names stored names); others = []; debugs = debugs_under stored names }
  choice_plain names =
      ap (λ us. all us (others_of stored (map (told_as fronts) names)) (debugs_of stored (map (told_as fronts) names))) (used_plain names)
      ∙ ap (λ os. all (filter is_attached (under_names stored names)) os (debugs_of stored (map (told_as fronts) names))) (others_plain names)
      ∙ ap (all (filter is_attached (under_names stored names)) []) (debugs_plain names)

-- One of these is used for the file of that name, and has that build ID.
abbrev pub HasBuild : List ExecutableView → List ℕ → List ℕ → Type 0
HasBuild [] path id = ⊥
HasBuild (x ∷ xs) path id = ((x.path ≡ path) × (build_id_of x.image ≡ Some id)) ⊎ HasBuild xs path id

-- A debug file is that of the build of an executable that is used for the file of its name.
abbrev pub IsDebugOf : List ExecutableView → ExecutableView → Type 0
IsDebugOf used d = (id : List ℕ) × (debug_id_of d.image ≡ Some id) × HasBuild used d.path id

named_debug : (id : List ℕ) (o : Option ExecutableView) (d : ExecutableView) → if_debug_of id o ≡ Some d → debug_id_of d.image ≡ Some id
named_debug id None d is = cc
named_debug id (Some x) d is =
    elim (cases_Bool (is_debug_of id x.image)) [
      | inl passes ↦
          (let found : Some x ≡ Some d = sym (ap (λ t. cond t (Some x) None) passes) ∙ is in let same : x ≡ d = cc in subst (λ (y : ExecutableView). debug_id_of y.image ≡ Some id) same (own_by id (debug_id_of x.image) passes))
      | inr fails ↦ (let missing : None ≡ Some d = sym (ap (λ t. cond t (Some x) None) fails) ∙ is in cc)
    ]

stored_debug : (stored : List ExecutableView) (o : Option (List ℕ)) (d : ExecutableView) → debug_stored stored o ≡ Some d → (id : List ℕ) × (o ≡ Some id) × (debug_id_of d.image ≡ Some id)
stored_debug stored None d is = cc
stored_debug stored (Some id) d is =
    elim (cases_Bool (has_name id)) [
      | inl named ↦ (id, refl, named_debug id (stored_as stored (debug_name id)) d (sym (ap (λ t. cond t (if_debug_of id (stored_as stored (debug_name id))) None) named) ∙ is))
      | inr unnamed ↦ (let missing : None ≡ Some d = sym (ap (λ t. cond t (if_debug_of id (stored_as stored (debug_name id))) None) unnamed) ∙ is in cc)
    ]

debug_found : (stored : List ExecutableView) (path : List ℕ) (x : ExecutableView) (o : Option ExecutableView) → debug_stored stored (build_id_of x.image) ≡ o → AllByRecursion (IsDebugOf (as_file path x ∷ [])) (debug_by path o)
debug_found stored path x None is = tt
debug_found stored path x (Some d) is = (let found = stored_debug stored (build_id_of x.image) d is in (found.0, found.2, inl (refl, found.1)), tt)

one_debug_of : (stored : List ExecutableView) (path : List ℕ) (k : Chosen) → AllByRecursion (IsDebugOf (used_by path k)) (debug_by path (debug_of stored k))
unfolding debug_of
one_debug_of stored path (by_build x) = debug_found stored path x (debug_stored stored (build_id_of x.image)) refl
one_debug_of stored path (by_path x) = debug_found stored path x (debug_stored stored (build_id_of x.image)) refl
one_debug_of stored path (other x) = tt
one_debug_of stored path none = tt

build_first_of : (xs ys : List ExecutableView) (path id : List ℕ) → HasBuild xs path id → HasBuild (xs ++ ys) path id
build_first_of [] ys path id has = absurd has
build_first_of (x ∷ xs) ys path id (inl here) = inl here
build_first_of (x ∷ xs) ys path id (inr more) = inr (build_first_of xs ys path id more)

build_after : (xs ys : List ExecutableView) (path id : List ℕ) → HasBuild ys path id → HasBuild (xs ++ ys) path id
build_after [] ys path id has = has
build_after (x ∷ xs) ys path id has = inr (build_after xs ys path id has)

debugs_both : (us vs ds es : List ExecutableView) → AllByRecursion (IsDebugOf us) ds → AllByRecursion (IsDebugOf vs) es → AllByRecursion (IsDebugOf (us ++ vs)) (ds ++ es)
debugs_both us vs [] [] first more = tt
debugs_both us vs [] (e ∷ es) first more = ((more.0.0, more.0.1, build_after us vs e.path more.0.0 more.0.2), debugs_both us vs [] es tt more.1)
debugs_both us vs (d ∷ ds) es first more = ((first.0.0, first.0.1, build_first_of us vs d.path first.0.0 first.0.2), debugs_both us vs ds es first.1 more)

-- no debug file of another build is used
pub each_debug : (stored : List ExecutableView) (told : List NamedId) → AllByRecursion (IsDebugOf (used_of stored told)) (debugs_of stored told)
each_debug stored [] = tt
each_debug stored (t ∷ ts) =
    let k = chosen stored t.1 t.0 in
    debugs_both (used_by t.0 k) (used_of stored ts) (debug_by t.0 (debug_of stored k)) (debugs_of stored ts) (one_debug_of stored t.0 k) (each_debug stored ts)
