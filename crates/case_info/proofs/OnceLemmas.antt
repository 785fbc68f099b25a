-- Builds that are wanted, each once.
use Rattle.std.proofs.Common.{◌≡◌, inl, inr, ℕ, Bool, false, true, not, cond, filter, List, [], ◌∷◌, ◌++◌, map, Option, None, Some, refl, ap, sym, ◌∙◌}
use Rattle.std.specs.Prelude.{◌||◌, ◌&&◌, is_none, is_some}
use Rattle.address_space.specs.Source.{ExecutableView}
use Rattle.build_ids.specs.BuildName.{has_name}
use Rattle.build_replies.specs.ByBuild.{Chosen, used_executable}
use Rattle.case_info.specs.Gathering.{file_of, files_with}
use Rattle.std.specs.List.{cons_option, filter_map, list_any}
use Rattle.std.specs.Option.{option_map}
use Rattle.std.specs.Str.{bytes_eq}
use Rattle.std.proofs.lemmas.Bool.{cases_Bool}
use Rattle.std.proofs.lemmas.Slice.Eq.{bytes_eq-Decides}
use Rattle.build_replies.specs.Builds.{BuildValue, NamedBuild, each_build, wanted_id, wanted_of, wants_of}
use Rattle.build_replies.specs.BuildsWords.{with_build}
use Rattle.case_info.specs.Wants.{AddsExactly, AreOnce, has_id, is_id, wanted_if, wanted_of_file, wants_id, wants_with, with_all, with_each}

-- a build of another ID
abbrev is_another : NamedBuild → NamedBuild → Bool
is_another w v = not (bytes_eq w.1 v.1)

-- two texts that are the same, the other way round
turned : (a b : List ℕ) → bytes_eq a b ≡ true → bytes_eq b a ≡ true
turned a b same = (bytes_eq-Decides b a).1 (sym ((bytes_eq-Decides a b).0 same))

differ : (a b : List ℕ) (t : Bool) → bytes_eq b a ≡ t → bytes_eq a b ≡ false → bytes_eq b a ≡ false
differ a b true same apart = absurd (let e : true ≡ false = sym (turned b a same) ∙ apart in cc)
differ a b false same apart = same

-- a Bool that is one, or another that is one as well
or_same : (t u : Bool) → (u ≡ true → t ≡ true) → t ≡ (t || u)
or_same true u is = refl
or_same false true is = is refl
or_same false false is = refl

or_next : (a b c : Bool) → (a || (b || c)) ≡ ((a || b) || c)
or_next true b c = refl
or_next false b c = refl

or_none : (t : Bool) → t ≡ (t || false)
or_none true = refl
or_none false = refl

-- with one build more at the end
pub has_more : (ws : List NamedBuild) (w : NamedBuild) (id : List ℕ) → has_id (ws ++ w ∷ []) id ≡ (has_id ws id || bytes_eq w.1 id)
has_more [] w id = sym (or_none (bytes_eq w.1 id))
has_more (v ∷ vs) w id = ap (λ t. bytes_eq v.1 id || t) (has_more vs w id) ∙ or_next (bytes_eq v.1 id) (has_id vs id) (bytes_eq w.1 id)

-- one that has no build's ID
once_more : (ws : List NamedBuild) (w : NamedBuild) → has_id ws w.1 ≡ false → AreOnce ws → AreOnce (ws ++ w ∷ [])
once_more [] w new once = (refl, once)
once_more (v ∷ vs) w new once =
    let apart = parts (bytes_eq v.1 w.1) (has_id vs w.1) new in (
      has_more vs w v.1 ∙ ap (λ t. t || bytes_eq w.1 v.1) once.0 ∙ differ v.1 w.1 (bytes_eq w.1 v.1) refl apart.0,
      once_more vs w apart.1 once.1,
    )
  where
    parts : (a b : Bool) → (a || b) ≡ false → (a ≡ false) × (b ≡ false)
    parts true b is = absurd (let e : true ≡ false = is in cc)
    parts false b is = (refl, is)

-- a build that is put after the others, if none has its ID
added : (ws : List NamedBuild) (w : NamedBuild) (id : List ℕ) (t : Bool) → has_id ws w.1 ≡ t → has_id (cond (not t) (ws ++ w ∷ []) ws) id ≡ (has_id ws id || bytes_eq w.1 id)
added ws w id true had = or_same (has_id ws id) (bytes_eq w.1 id) (λ same. ap (has_id ws) (sym ((bytes_eq-Decides w.1 id).0 same)) ∙ had)
added ws w id false new = has_more ws w id

added_once : (ws : List NamedBuild) (w : NamedBuild) (t : Bool) → has_id ws w.1 ≡ t → AreOnce ws → AreOnce (cond (not t) (ws ++ w ∷ []) ws)
added_once ws w true had once = once
added_once ws w false new once = once_more ws w new once

pub adds_exactly : (ws more : List NamedBuild) → AddsExactly ws more (with_each ws more)
unfolding with_each
adds_exactly ws [] = record { exactly = λ id. or_none (has_id ws id); once = λ once. once }
adds_exactly ws (w ∷ others) =
    let rest = adds_exactly (with_build ws (Some w)) others in
    record {
      exactly = λ id. rest.exactly id ∙ ap (λ t. t || has_id others id) (added ws w id (has_id ws w.1) refl) ∙ sym (or_next (has_id ws id) (bytes_eq w.1 id) (has_id others id));
      once = λ once. rest.once (added_once ws w (has_id ws w.1) refl once);
    }

-- of those that are not this one, another ID is there as it was
others_have : (w : NamedBuild) (id : List ℕ) → bytes_eq w.1 id ≡ false → (ws : List NamedBuild) → has_id (filter (is_another w) ws) id ≡ has_id ws id
others_have w id differs [] = refl
others_have w id differs (v ∷ vs) =
    elim (cases_Bool (bytes_eq w.1 v.1)) [
      | inl same ↦
          let is = (bytes_eq-Decides w.1 v.1).0 same in
          ap (λ t. has_id (cond (not t) (v ∷ filter (is_another w) vs) (filter (is_another w) vs)) id) same
          ∙ others_have w id differs vs
          ∙ ap (λ t. t || has_id vs id) (sym differs ∙ ap (λ n. bytes_eq n id) is)
      | inr apart ↦
          ap (λ t. has_id (cond (not t) (v ∷ filter (is_another w) vs) (filter (is_another w) vs)) id) apart
          ∙ ap (λ t. bytes_eq v.1 id || t) (others_have w id differs vs)
    ]

-- and this one is not
others_lack : (w : NamedBuild) (ws : List NamedBuild) → has_id (filter (is_another w) ws) w.1 ≡ false
others_lack w [] = refl
others_lack w (v ∷ vs) =
    elim (cases_Bool (bytes_eq w.1 v.1)) [
      | inl same ↦ ap (λ t. has_id (cond (not t) (v ∷ filter (is_another w) vs) (filter (is_another w) vs)) w.1) same ∙ others_lack w vs
      | inr apart ↦
          ap (λ t. has_id (cond (not t) (v ∷ filter (is_another w) vs) (filter (is_another w) vs)) w.1) apart
          ∙ ap (λ t. t || has_id (filter (is_another w) vs) w.1) (differ w.1 v.1 (bytes_eq v.1 w.1) refl apart)
          ∙ others_lack w vs
    ]

-- whichever of them are left, an ID that was not there is not
left_lack : (w : NamedBuild) (id : List ℕ) (ws : List NamedBuild) → has_id ws id ≡ false → has_id (filter (is_another w) ws) id ≡ false
left_lack w id ws new = of (bytes_eq w.1 id) refl
  where
    of : (t : Bool) → bytes_eq w.1 id ≡ t → has_id (filter (is_another w) ws) id ≡ false
    of true same = ap (has_id (filter (is_another w) ws)) (sym ((bytes_eq-Decides w.1 id).0 same)) ∙ others_lack w ws
    of false apart = others_have w id apart ws ∙ new

left_once : (w : NamedBuild) (ws : List NamedBuild) → AreOnce ws → AreOnce (filter (is_another w) ws)
left_once w [] once = once
left_once w (v ∷ vs) once = of (bytes_eq w.1 v.1) (left_once w vs once.1)
  where
    of : (t : Bool) → AreOnce (filter (is_another w) vs) → AreOnce (cond (not t) (v ∷ filter (is_another w) vs) (filter (is_another w) vs))
    of true rest = rest
    of false rest = (left_lack w v.1 vs once.0, rest)

pub each_once : (ws : List NamedBuild) → AreOnce (each_build ws)
unfolding each_build
each_once [] = _
each_once (w ∷ ws) = (others_lack w (each_build ws), left_once w (each_build ws) (each_once ws))

each_has : (id : List ℕ) (ws : List NamedBuild) → has_id (each_build ws) id ≡ has_id ws id
unfolding each_build
each_has id [] = refl
each_has id (w ∷ ws) = of (bytes_eq w.1 id) refl (each_has id ws)
  where
    of : (t : Bool) → bytes_eq w.1 id ≡ t → has_id (each_build ws) id ≡ has_id ws id → has_id (w ∷ filter (is_another w) (each_build ws)) id ≡ has_id (w ∷ ws) id
    of true same rest = ap (λ u. u || has_id (filter (is_another w) (each_build ws)) id) same ∙ sym (ap (λ u. u || has_id ws id) same)
    of false apart rest = ap (λ u. bytes_eq w.1 id || u) (others_have w id apart (each_build ws) ∙ rest)

values_have : (id : List ℕ) (values : List BuildValue) → has_id (filter_map wanted_of values) id ≡ list_any (wants_id id) values
values_have id [] = refl
values_have id (v ∷ vs) = of (wanted_id v.chosen v.core) (values_have id vs)
  where
    of : (o : Option (List ℕ)) → has_id (filter_map wanted_of vs) id ≡ list_any (wants_id id) vs → has_id (cons_option (option_map (λ i. (v.name, i)) o) (filter_map wanted_of vs)) id ≡ (is_id id o || list_any (wants_id id) vs)
    of None rest = rest
    of (Some i) rest = ap (λ t. bytes_eq i id || t) rest

pub wants_exactly : (id : List ℕ) (values : List BuildValue) → has_id (wants_of values) id ≡ list_any (wants_id id) values
wants_exactly id values = each_has id (filter_map wanted_of values) ∙ values_have id values

-- ---- By the files that are kept.

-- a build whose ID is there adds nothing
known : (ws : List NamedBuild) (w : NamedBuild) → has_id ws w.1 ≡ true → with_build ws (Some w) ≡ ws
known ws w had = ap (λ t. cond (not t) (ws ++ w ∷ []) ws) had

or_true : (t : Bool) → (t || true) ≡ true
or_true true = refl
or_true false = refl

-- a build that was put after others is there
has_with : (ws : List NamedBuild) (w : NamedBuild) → has_id (with_build ws (Some w)) w.1 ≡ true
has_with ws w = added ws w w.1 (has_id ws w.1) refl ∙ ap (λ t. has_id ws w.1 || t) ((bytes_eq-Decides w.1 w.1).1 refl) ∙ or_true (has_id ws w.1)

-- an ID stays there
stays_had : (ws : List NamedBuild) (w : NamedBuild) (id : List ℕ) → has_id ws id ≡ true → has_id (with_build ws (Some w)) id ≡ true
stays_had ws w id had = added ws w id (has_id ws w.1) refl ∙ ap (λ t. t || bytes_eq w.1 id) had

-- builds of an ID that is there may be left out
skips : (w : NamedBuild) (ys ws : List NamedBuild) → has_id ws w.1 ≡ true → with_each ws (filter (is_another w) ys) ≡ with_each ws ys
unfolding with_each
skips w [] ws had = refl
skips w (y ∷ ys) ws had = of (bytes_eq w.1 y.1) refl (skips w ys ws had) (skips w ys (with_build ws (Some y)) (stays_had ws y w.1 had))
  where
    of : (t : Bool) → bytes_eq w.1 y.1 ≡ t → with_each ws (filter (is_another w) ys) ≡ with_each ws ys
        → with_each (with_build ws (Some y)) (filter (is_another w) ys) ≡ with_each (with_build ws (Some y)) ys
        → with_each ws (cond (not t) (y ∷ filter (is_another w) ys) (filter (is_another w) ys)) ≡ with_each (with_build ws (Some y)) ys
    of true same here there = here ∙ ap (λ vs. with_each vs ys) (sym (known ws y (ap (has_id ws) (sym ((bytes_eq-Decides w.1 y.1).0 same)) ∙ had)))
    of false apart here there = there

each_same : (xs ws : List NamedBuild) → with_each ws (each_build xs) ≡ with_each ws xs
unfolding with_each each_build
each_same [] ws = refl
each_same (x ∷ xs) ws = skips x (each_build xs) (with_build ws (Some x)) (has_with ws x) ∙ each_same xs (with_build ws (Some x))

file_wanted : (name : List ℕ) (k : Chosen) (o : Option (List ℕ)) → wanted_if name (is_some (used_executable k)) o ≡ option_map (λ i. (name, i)) (wanted_id k o)
file_wanted name k None = refl
file_wanted name k (Some id) = of (used_executable k)
  where
    pushed : (t : Bool) → cond {A = Option NamedBuild} t (Some (name, id)) None ≡ option_map (λ i. (name, i)) (cond t (Some id) None)
    pushed true = refl
    pushed false = refl

    of : (u : Option ExecutableView) → cond {A = Option NamedBuild} (has_name id && not (is_some u)) (Some (name, id)) None ≡ option_map (λ i. (name, i)) (cond (has_name id && is_none u) (Some id) None)
    of None = pushed (has_name id && true)
    of (Some x) = pushed (has_name id && false)

values_same : (values : List BuildValue) (ws : List NamedBuild) → with_all ws (map file_of values) ≡ with_each ws (filter_map wanted_of values)
unfolding with_all with_each
values_same [] ws = refl
values_same (v ∷ vs) ws =
    values_same vs (with_build ws (wanted_of_file (file_of v)))
    ∙ ap (λ o. with_each (with_build ws o) (filter_map wanted_of vs)) (file_wanted v.name v.chosen v.core)
    ∙ one (wanted_of v)
  where
    one : (o : Option NamedBuild) → with_each (with_build ws o) (filter_map wanted_of vs) ≡ with_each ws (cons_option o (filter_map wanted_of vs))
    one None = refl
    one (Some w) = refl

pub keeps_wants : (ws : List NamedBuild) (values : Option (List BuildValue)) → with_all ws (files_with values) ≡ with_each ws (wants_with values)
unfolding with_all with_each
keeps_wants ws None = refl
keeps_wants ws (Some values) = values_same values ws ∙ sym (each_same (filter_map wanted_of values) ws)

pub inserted : (t old : Bool) → cond t true old ≡ (old || t)
inserted true true = refl
inserted true false = refl
inserted false true = refl
inserted false false = refl
