-- What is wanted once an executable is stored by its build.
use Rattle.std.proofs.Common.{◌≡◌, ◌⊎◌, inl, inr, ℕ, Bool, false, true, not, cond, List, [], ◌∷◌, ◌++◌, Option, None, Some, refl, ap, sym, subst, ◌∙◌}
use Rattle.std.specs.Prelude.{◌&&◌, ◌||◌, is_none, if◌then◌else◌}
use Rattle.std.specs.List.{list_any}
use Rattle.std.specs.Option.{option_or}
use Rattle.std.specs.Str.{bytes_eq}
use Rattle.std.proofs.lemmas.Bool.{cases_Bool, false≢true}
use Rattle.std.proofs.lemmas.List.Folds.{find-append}
use Rattle.std.proofs.lemmas.Slice.Eq.{bytes_eq-Decides}
use Rattle.address_space.specs.Source.{ExecutableView, is_named}
use Rattle.build_ids.specs.BuildId.{build_id_of}
use Rattle.build_ids.specs.BuildName.{build_name, has_name}
use Rattle.build_ids.specs.DebugFile.{is_debug}
use Rattle.build_replies.specs.Builds.{NamedId, build_value, values_of, wants_of}
use Rattle.build_replies.specs.ByBuild.{Chosen, agrees, build_first, build_stored, by_build, by_its_path, by_path, chosen, has_told_id, if_agrees, is_executable, none, other, stored_as, used_executable}
use Rattle.build_replies.specs.ByBuild as ids
use Rattle.case_info.specs.StoredBuilds.{IsStoredByBuild, WantsOthers}
use Rattle.case_info.specs.Wants.{is_id, wants_id}
use Rattle.case_info.proofs.OnceLemmas.{wants_exactly}

and_false : (b : Bool) → false ≡ (b && false)
and_false true = refl
and_false false = refl

-- what is in neither part of a list is not in it
and_or : (n a b : Bool) → ((n && a) || (n && b)) ≡ (n && (a || b))
and_or true a b = refl
and_or false a b = refl

both : (a b : Bool) → (a && b) ≡ true → (a ≡ true) × (b ≡ true)
both true b is = (refl, is)
both false b is = absurd (false≢true is)

differs : (a b : List ℕ) → (a ≡ b → ⊥) → bytes_eq a b ≡ false
differs a b apart = of (bytes_eq a b) refl
  where
    of : (t : Bool) → bytes_eq a b ≡ t → bytes_eq a b ≡ false
    of true same = absurd (apart ((bytes_eq-Decides a b).0 same))
    of false is = is

apart_of : (a b : List ℕ) → bytes_eq a b ≡ false → a ≡ b → ⊥
apart_of a b is same = false≢true (sym is ∙ (bytes_eq-Decides a b).1 same)

module _ (one_name : (a b : List ℕ) → build_name a ≡ build_name b → a ≡ b) (stored : List ExecutableView) (id : List ℕ) (x : ExecutableView) (s : IsStoredByBuild stored id x) where
  -- the one of a name, once it is stored
  found_in : (name : List ℕ) → stored_as (stored ++ x ∷ []) name ≡ option_or (stored_as stored name) (cond (bytes_eq x.path name) (Some x) None)
  found_in name = find-append (is_named name) stored (x ∷ [])

  none_after : (o : Option ExecutableView) → option_or o None ≡ o
  none_after None = refl
  none_after (Some y) = refl

  -- under the name of another build there is what there was
  other_build : (i : List ℕ) → (id ≡ i → ⊥) → stored_as (stored ++ x ∷ []) (build_name i) ≡ stored_as stored (build_name i)
  other_build i apart =
      let named : bytes_eq x.path (build_name i) ≡ false = ap (λ n. bytes_eq n (build_name i)) s.name ∙ differs (build_name id) (build_name i) (λ same. apart (one_name id i same)) in
      found_in (build_name i) ∙ ap (λ (t : Bool). option_or (stored_as stored (build_name i)) (cond t (Some x) None)) named ∙ none_after (stored_as stored (build_name i))

  -- it is of no other build
  not_other : (i : List ℕ) → (id ≡ i → ⊥) → agrees (Some i) x.image ≡ false
  unfolding agrees
  not_other i apart =
      let parts = both (is_executable x.image) (not (is_debug x.image) && has_told_id (Some id) x.image) s.is in
      let told = both (not (is_debug x.image)) (has_told_id (Some id) x.image) parts.1 in
      let no : has_told_id (Some i) x.image ≡ false = of (build_id_of x.image) told.1 in
      ap (λ (t : Bool). is_executable x.image && (not (is_debug x.image) && t)) no ∙ ap (λ (t : Bool). is_executable x.image && t) (sym (and_false (not (is_debug x.image)))) ∙ sym (and_false (is_executable x.image))
    where
      of : (own : Option (List ℕ)) → ids.is_id id own ≡ true → ids.is_id i own ≡ false
      of None is = refl
      of (Some own) is = differs i own (λ same. apart ((bytes_eq-Decides id own).0 is ∙ sym same))

  -- so it is used for no file of another build
  unused : (i : List ℕ) → (id ≡ i → ⊥) → used_executable (by_its_path (Some i) (Some x)) ≡ None
  unused i apart = ap (λ (t : Bool). used_executable (if t then by_path x else (if is_executable x.image then other x else none))) (not_other i apart) ∙ of (is_executable x.image)
    where
      of : (t : Bool) → used_executable (if t then other x else none) ≡ None
      of true = refl
      of false = refl

  path_same : (i path : List ℕ) → (id ≡ i → ⊥) → used_executable (by_its_path (Some i) (stored_as (stored ++ x ∷ []) path)) ≡ used_executable (by_its_path (Some i) (stored_as stored path))
  path_same i path apart =
      ap (λ (o : Option ExecutableView). used_executable (by_its_path (Some i) o)) (found_in path) ∙ of (stored_as stored path) (bytes_eq x.path path)
    where
      of : (o : Option ExecutableView) (t : Bool) → used_executable (by_its_path (Some i) (option_or o (cond t (Some x) None))) ≡ used_executable (by_its_path (Some i) o)
      of (Some y) t = refl
      of None true = unused i apart
      of None false = refl

  -- of the choice that a build makes first, what is used depends on what is used by the path
  first_same : (o : Option ExecutableView) (a b : Chosen) → used_executable a ≡ used_executable b → used_executable (build_first o a) ≡ used_executable (build_first o b)
  first_same None a b same = same
  first_same (Some y) a b same = refl

  used_same : (i path : List ℕ) → (id ≡ i → ⊥) → used_executable (chosen (stored ++ x ∷ []) (Some i) path) ≡ used_executable (chosen stored (Some i) path)
  unfolding chosen
  used_same i path apart =
      ap (λ (o : Option ExecutableView). used_executable (build_first (if has_name i then if_agrees (Some i) o else None) (by_its_path (Some i) (stored_as (stored ++ x ∷ []) path)))) (other_build i apart)
      ∙ first_same (build_stored stored (Some i)) (by_its_path (Some i) (stored_as (stored ++ x ∷ []) path)) (by_its_path (Some i) (stored_as stored path)) (path_same i path apart)

  -- a file of its build has it
  used_itself : (path : List ℕ) → used_executable (chosen (stored ++ x ∷ []) (Some id) path) ≡ Some x
  unfolding chosen
  used_itself path =
      let named : bytes_eq x.path (build_name id) ≡ true = (bytes_eq-Decides x.path (build_name id)).1 s.name in
      let found : stored_as (stored ++ x ∷ []) (build_name id) ≡ Some x =
      found_in (build_name id) ∙ ap (λ (o : Option ExecutableView). option_or o (cond (bytes_eq x.path (build_name id)) (Some x) None)) s.free ∙ ap (λ (t : Bool). cond t (Some x) None) named
      in
      let past = by_its_path (Some id) (stored_as (stored ++ x ∷ []) path) in
      ap (λ (o : Option ExecutableView). used_executable (build_first (if has_name id then if_agrees (Some id) o else None) past)) found
      ∙ ap (λ (t : Bool). used_executable (build_first (if t then if_agrees (Some id) (Some x) else None) past)) s.can
      ∙ ap (λ (t : Bool). used_executable (build_first (if t then Some x else None) past)) s.is

  -- what one file wants
  wants_one : (t : NamedId) (o : List ℕ) → wants_id o (build_value (stored ++ x ∷ []) t) ≡ (not (bytes_eq id o) && wants_id o (build_value stored t))
  wants_one (path, None) o = and_false (not (bytes_eq id o))
  wants_one (path, Some i) o = of (cases_Bool (bytes_eq id i))
    where
      after : Option ExecutableView
      after = used_executable (chosen (stored ++ x ∷ []) (Some i) path)

      before : Option ExecutableView
      before = used_executable (chosen stored (Some i) path)

      wants : Bool → Bool
      wants t = is_id o (if t then Some i else None)

      never : (t : Bool) (b : Bool) → bytes_eq id o ≡ b → bytes_eq i o ≡ b → false ≡ (not (bytes_eq id o) && wants t)
      never t true e f = ap (λ (b : Bool). not b && wants t) (sym e)
      never true false e f = and_false (not (bytes_eq id o)) ∙ ap (λ (b : Bool). not (bytes_eq id o) && b) (sym f)
      never false b e f = and_false (not (bytes_eq id o))

      always : (t : Bool) → (id ≡ i → ⊥) → wants t ≡ (not (bytes_eq id o) && wants t)
      always false apart = and_false (not (bytes_eq id o))
      always true apart = by (bytes_eq i o) refl
        where
          by : (b : Bool) → bytes_eq i o ≡ b → bytes_eq i o ≡ (not (bytes_eq id o) && bytes_eq i o)
          by false e = e ∙ and_false (not (bytes_eq id o)) ∙ ap (λ (b : Bool). not (bytes_eq id o) && b) (sym e)
          by true e =
              let no : bytes_eq id o ≡ false = differs id o (λ same. apart (same ∙ sym ((bytes_eq-Decides i o).0 e))) in
              sym (ap (λ (b : Bool). not b && bytes_eq i o) no)

      of : (bytes_eq id i ≡ true) ⊎ (bytes_eq id i ≡ false) → wants (has_name i && is_none after) ≡ (not (bytes_eq id o) && wants (has_name i && is_none before))
      of (inl same) =
          let is : id ≡ i = (bytes_eq-Decides id i).0 same in
          let used : after ≡ Some x = subst (λ (k : List ℕ). used_executable (chosen (stored ++ x ∷ []) (Some k) path) ≡ Some x) is (used_itself path) in
          ap (λ (u : Option ExecutableView). wants (has_name i && is_none u)) used ∙ ap wants (sym (and_false (has_name i)))
          ∙ never (has_name i && is_none before) (bytes_eq id o) refl (ap (λ (k : List ℕ). bytes_eq k o) (sym is))
      of (inr apart) =
          let no = apart_of id i apart in
          ap (λ (u : Option ExecutableView). wants (has_name i && is_none u)) (used_same i path no) ∙ always (has_name i && is_none before) no

  wants_all : (told : List NamedId) (o : List ℕ) → list_any (wants_id o) (values_of (stored ++ x ∷ []) told) ≡ (not (bytes_eq id o) && list_any (wants_id o) (values_of stored told))
  wants_all [] o = and_false (not (bytes_eq id o))
  wants_all (t ∷ ts) o =
      ap (λ (b : Bool). b || list_any (wants_id o) (values_of (stored ++ x ∷ []) ts)) (wants_one t o)
      ∙ ap (λ (b : Bool). (not (bytes_eq id o) && wants_id o (build_value stored t)) || b) (wants_all ts o)
      ∙ and_or (not (bytes_eq id o)) (wants_id o (build_value stored t)) (list_any (wants_id o) (values_of stored ts))

  pub wants_others : (told : List NamedId) → WantsOthers id (wants_of (values_of stored told)) (wants_of (values_of (stored ++ x ∷ []) told))
  wants_others told o =
      wants_exactly o (values_of (stored ++ x ∷ []) told) ∙ wants_all told o
      ∙ ap (λ (b : Bool). not (bytes_eq id o) && b) (sym (wants_exactly o (values_of stored told)))
