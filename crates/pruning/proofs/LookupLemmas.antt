-- What the lines that ask a core find after a prune.
use Rattle.std.proofs.Common.{◌≡◌, inl, inr, ℕ, Bool, true, false, not, cond, ◌&&◌, ◌||◌, List, Option, None, Some, Bor, refl, sym, ap, subst, ◌∙◌, ⊎_elim}
use Rattle.std.proofs.lemmas.Bool.{cases_Bool, false≢true}
use Rattle.std.proofs.lemmas.Slice.Eq.{bytes_eq-Decides}
use Rattle.std.specs.Str.{bytes_eq}
use Rattle.build_ids.specs.BuildName.{IsNameOf, build_name, debug_name, has_name}
use Rattle.pruning.specs.Cases.{cores_that_stay, is_among, is_core, is_id, is_named, mapped_by, named, names, needed, needs, needs_id, number, stays}
use Rattle.pruning.specs.Lookups.{IsLookedUp, by_build, debug_file, if_passes, is_stored_as, or_else, stored_as}
use Rattle.pruning.specs.Pruning.{GoesBy}
use Rattle.pruning.specs.PruningLaws.{IsAsBefore, PruneChangesNoAnswer, left}
use Rattle.pruning.specs.declared.cases.LiveCase.{LiveCase}
use Rattle.pruning.specs.declared.cases.MappedFile.{MappedFile}
use Rattle.pruning.proofs.BuildLemmas.{OneBuild, one_id}
use Rattle.pruning.proofs.LawLemmas.{builds_decided}
use Rattle.pruning.proofs.MemberLemmas.{In, any_in, found_alike, from_contains, in_filter, to_filter}
use Rattle.pruning.proofs.NumberLemmas.{or_true}

-- each mapped file's name, and each ID of it, is looked up
same : (text : List ℕ) → bytes_eq text text ≡ true
same text = (bytes_eq-Decides text text).1 refl

named_by : (c : LiveCase) (f : MappedFile) → In f (mapped_by c) → names f.name.now c ≡ true
named_by c f there = any_in (is_named f.name.now) (mapped_by c) f there (same f.name.now)

needed_told : (c : LiveCase) (f : MappedFile) (id : Bor (List ℕ)) → In f (mapped_by c) → f.told ≡ Some id → needs id.now c ≡ true
needed_told c f id there is = any_in (needs_id id.now) (mapped_by c) f there (ap (λ o. is_id id.now o || is_id id.now f.used) is ∙ ap (λ t. t || is_id id.now f.used) (same id.now))

needed_used : (c : LiveCase) (f : MappedFile) (id : Bor (List ℕ)) → In f (mapped_by c) → f.used ≡ Some id → needs id.now c ≡ true
needed_used c f id there is = any_in (needs_id id.now) (mapped_by c) f there (or_true (is_id id.now f.told) (ap (is_id id.now) is ∙ same id.now))

-- of two lists in which the names that a core looks up find the same
module _ (cases rest : List LiveCase) (c : LiveCase) (found : (name : List ℕ) → IsLookedUp c name → stored_as rest name ≡ stored_as cases name) where
  by_a_build : (o : Option (Bor (List ℕ))) → ((id : Bor (List ℕ)) → o ≡ Some id → needs id.now c ≡ true) → by_build rest o ≡ by_build cases o
  by_a_build None asked = refl
  by_a_build (Some id) asked = by (has_name id.now) refl
    where
      by : (t : Bool) → has_name id.now ≡ t → cond t (stored_as rest (build_name id.now)) None ≡ cond t (stored_as cases (build_name id.now)) None
      by true e = found (build_name id.now) (inr (id.now, asked id refl, (e, inl refl)))
      by false e = refl

  of_a_build : (o : Option (Bor (List ℕ))) → ((id : Bor (List ℕ)) → o ≡ Some id → needs id.now c ≡ true) → debug_file rest o ≡ debug_file cases o
  of_a_build None asked = refl
  of_a_build (Some id) asked = by (has_name id.now) refl
    where
      by : (t : Bool) → has_name id.now ≡ t → cond t (stored_as rest (debug_name id.now)) None ≡ cond t (stored_as cases (debug_name id.now)) None
      by true e = found (debug_name id.now) (inr (id.now, asked id refl, (e, inr refl)))
      by false e = refl

  pub as_before : IsAsBefore cases rest c
  as_before = record {
    found = found;
    executable = λ passes f there.
        let among = from_contains (mapped_by c) f there in
        ap (λ o. or_else (if_passes passes o) (stored_as rest f.name.now)) (by_a_build f.told (λ id is. needed_told c f id among is))
        ∙ ap (or_else (if_passes passes (by_build cases f.told))) (found f.name.now (inl (named_by c f among)));
    debug = λ f there.
        let among = from_contains (mapped_by c) f there in
        (of_a_build f.told (λ id is. needed_told c f id among is), of_a_build f.used (λ id is. needed_used c f id among is));
  }

-- an executable of a name that a core that stays looks up does not go
stays_too : OneBuild → (cores : List LiveCase) (c : LiveCase) → In c cores → (name : List ℕ) → IsLookedUp c name → (e : LiveCase) → e.name.now ≡ name → GoesBy cores e → ⊥
stays_too one cores c there name (inl by_name) e is g =
    false≢true (sym g.not_named ∙ ap (named cores) is ∙ any_in (names name) cores c there by_name)
stays_too one cores c there name (inr (id, by_id, of)) e is g =
    let build = one_id one id g.build.id name of (subst (IsNameOf g.build.id) is g.build.named) in
    false≢true (sym g.not_needed ∙ ap (needed cores) (sym build) ∙ any_in (needs id) cores c there by_id)

parts : (a b : Bool) → (not a && b) ≡ true → (a ≡ false) × (b ≡ true)
parts true b e = cc
parts false b e = (refl, e)

pub no_answer_changes : OneBuild → PruneChangesNoAnswer
no_answer_changes one policy cases dropped unmet order p c there core =
    as_before cases (left dropped cases) c (λ name asked. found_alike (is_stored_as name) (λ e. not (is_among dropped (number e))) cases (λ e among is. kept name asked e among is))
  where
    stays_itself : In c (cores_that_stay dropped cases)
    stays_itself =
        let among = in_filter (λ e. not (is_among dropped (number e))) cases c (from_contains (left dropped cases) c there) in
        to_filter (stays dropped) cases c among.0 (ap (λ t. t && not (is_among dropped (number c))) core ∙ among.1)

    kept : (name : List ℕ) → IsLookedUp c name → (e : LiveCase) → In e cases → is_stored_as name e ≡ true → not (is_among dropped (number e)) ≡ true
    kept name asked e among is =
        let both = parts (is_core e) (bytes_eq e.name.now name) is in
        ⊎_elim
        (λ (gone : is_among dropped (number e) ≡ true).
        absurd (stays_too one (cores_that_stay dropped cases) c stays_itself name asked e ((bytes_eq-Decides e.name.now name).0 both.1) ((builds_decided policy cases dropped unmet order p e among both.0).0 gone)))
        (λ stays. ap not stays)
        (cases_Bool (is_among dropped (number e)))
