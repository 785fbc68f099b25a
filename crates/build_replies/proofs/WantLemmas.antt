-- Builds that are wanted, each once.
use Rattle.std.proofs.Common.{◌≡◌, ◌<◌, inl, inr, ℕ, ◌+◌, Bool, true, false, not, cond, filter, map, List, [], ◌∷◌, ◌++◌, take, length, get_or, Option, None, Some, refl, sym, ap, ◌∙◌}
use Rattle.std.specs.Prelude.{◌||◌}
use Rattle.std.specs.List.{cons_option, filter_map}
use Rattle.std.specs.Str.{bytes_eq}
use Rattle.std.proofs.lemmas.Bool.{cases_Bool}
use Rattle.std.proofs.lemmas.List.{append-nil, map-append, take_more}
use Rattle.std.proofs.lemmas.List.Elements.{filter-append, filter_map-append}
use Rattle.std.proofs.lemmas.Slice.Eq.{bytes_eq-Decides}
use Rattle.build_replies.specs.Builds.{BuildValue, NamedBuild, each_build, id_in, wanted_of, wants_of}
use Rattle.build_replies.specs.BuildsWords.{AddsBuild, with_build}
use Rattle.build_replies.specs.Mapped.{build_view}
use Rattle.build_replies.specs.NameWords.{is_one_of}
use Rattle.address_space.specs.Source.{ExecutableView}
use Rattle.build_replies.specs.TableWords.{is_new, path_of}
use Rattle.build_replies.proofs.NameLemmas.{one_of}
use Rattle.build_replies.specs.declared.answers.BuildAnswer.{BuildAnswer}

-- a build that is not this one
abbrev is_another : NamedBuild → NamedBuild → Bool
is_another w v = not (bytes_eq w.1 v.1)

abbrev has_id : List NamedBuild → List ℕ → Bool
has_id ws id = is_one_of (map id_in ws) id

-- of those that are not this one, another ID is there as it was
others_have : (w : NamedBuild) (id : List ℕ) → bytes_eq w.1 id ≡ false → (ws : List NamedBuild) → has_id (filter (is_another w) ws) id ≡ has_id ws id
others_have w id differs [] = refl
others_have w id differs (v ∷ vs) =
    elim (cases_Bool (bytes_eq w.1 v.1)) [
      | inl same ↦
          let is = (bytes_eq-Decides w.1 v.1).0 same in
          ap (λ t. has_id (cond (not t) (v ∷ filter (is_another w) vs) (filter (is_another w) vs)) id) same
          ∙ others_have w id differs vs
          ∙ ap (λ t. t || has_id vs id) (sym differs ∙ ap (λ n. bytes_eq n id) is)
      | inr apart ↦
          ap (λ t. has_id (cond (not t) (v ∷ filter (is_another w) vs) (filter (is_another w) vs)) id) apart
          ∙ ap (λ t. bytes_eq v.1 id || t) (others_have w id differs vs)
    ]

-- of those that are not this one, one more
others_more : (w v : NamedBuild) (ws : List NamedBuild) (t : Bool) → bytes_eq w.1 v.1 ≡ false → filter (is_another w) (cond t (ws ++ v ∷ []) ws) ≡ cond t (filter (is_another w) ws ++ v ∷ []) (filter (is_another w) ws)
others_more w v ws true differs =
    filter-append (is_another w) ws (v ∷ []) ∙ ap (λ t. filter (is_another w) ws ++ cond (not t) (v ∷ []) []) differs
others_more w v ws false differs = refl

-- the same build is none of them
others_same : (w v : NamedBuild) (ws : List NamedBuild) (t : Bool) → bytes_eq w.1 v.1 ≡ true → filter (is_another w) (cond t (ws ++ v ∷ []) ws) ≡ filter (is_another w) ws
others_same w v ws true same =
    filter-append (is_another w) ws (v ∷ []) ∙ ap (λ t. filter (is_another w) ws ++ cond (not t) (v ∷ []) []) same ∙ append-nil (filter (is_another w) ws)
others_same w v ws false same = refl

-- one build more
each_more : (ws : List NamedBuild) (v : NamedBuild) → each_build (ws ++ v ∷ []) ≡ with_build (each_build ws) (Some v)
unfolding each_build
each_more [] v = refl
each_more (w ∷ ws) v =
    let before = ap (λ (rest : List NamedBuild). w ∷ filter (is_another w) rest) (each_more ws v) in
    let others = filter (is_another w) (each_build ws) in
    elim (cases_Bool (bytes_eq w.1 v.1)) [
      | inl same ↦
          before ∙ ap (λ (rest : List NamedBuild). w ∷ rest) (others_same w v (each_build ws) (not (has_id (each_build ws) v.1)) same)
          ∙ sym (ap (λ t. cond (not (t || has_id others v.1)) (w ∷ (others ++ v ∷ [])) (w ∷ others)) same)
      | inr differs ↦
          before ∙ ap (λ (rest : List NamedBuild). w ∷ rest) (others_more w v (each_build ws) (not (has_id (each_build ws) v.1)) differs)
          ∙ ap (λ t. w ∷ cond (not t) (others ++ v ∷ []) others) (sym (others_have w v.1 differs (each_build ws)))
          ∙ pushed (not (has_id others v.1)) w others v
          ∙ sym (ap (λ t. cond (not (t || has_id others v.1)) (w ∷ (others ++ v ∷ [])) (w ∷ others)) differs)
    ]
  where
    pushed : (t : Bool) (w : NamedBuild) (others : List NamedBuild) (v : NamedBuild) → w ∷ cond t (others ++ v ∷ []) others ≡ cond t (w ∷ (others ++ v ∷ [])) (w ∷ others)
    pushed true w others v = refl
    pushed false w others v = refl

one_or_none : (ws : List NamedBuild) (o : Option NamedBuild) → each_build (ws ++ cons_option o []) ≡ with_build (each_build ws) o
one_or_none ws None = ap each_build (append-nil ws)
one_or_none ws (Some w) = each_more ws w

-- one file more
wants_more : (values : List BuildValue) (v : BuildValue) → wants_of (values ++ v ∷ []) ≡ with_build (wants_of values) (wanted_of v)
wants_more values v = ap each_build (filter_map-append wanted_of values (v ∷ [])) ∙ one_or_none (filter_map wanted_of values) (wanted_of v)

-- those that went by, and the next
pub next_wanted : (rows : List BuildAnswer) (i : ℕ) (r : BuildAnswer) (ids more : List (List ℕ)) (old new : List NamedBuild) (o : Option NamedBuild) → i < length rows → r ≡ get_or rows i r
    → ids ≡ map id_in old → old ≡ wants_of (map build_view (take i rows)) → o ≡ wanted_of (build_view r) → AddsBuild ids old o more new
    → (more ≡ map id_in new) × (new ≡ wants_of (map build_view (take (i + 1) rows)))
next_wanted rows i r ids more old new o within is theirs before picked adds =
    let next : map build_view (take (i + 1) rows) ≡ map build_view (take i rows) ++ build_view r ∷ [] =
    ap (map build_view) (take_more rows i r within)
    ∙ map-append build_view (take i rows) (get_or rows i r ∷ [])
    ∙ ap (λ (y : BuildAnswer). map build_view (take i rows) ++ build_view y ∷ []) (sym is) in
    let made = adds theirs in (
      made.0,
      made.1 ∙ ap (λ (ws : List NamedBuild). with_build ws o) before
          ∙ ap (with_build (wants_of (map build_view (take i rows)))) picked
          ∙ sym (wants_more (map build_view (take i rows)) (build_view r))
          ∙ ap wants_of (sym next),
    )

-- none more
pub adds_none : (ids : List (List ℕ)) (ws : List NamedBuild) (o : Option NamedBuild) → None ≡ o → AddsBuild ids ws o ids ws
adds_none ids ws o is same = (same, ap (with_build ws) is)

not_twice : (t : Bool) → not (not t) ≡ t
not_twice true = refl
not_twice false = refl

-- an ID that no row has is none of theirs
new_id : (rows : List ExecutableView) (ws : List NamedBuild) (id : List ℕ) (t : Bool) → map path_of rows ≡ map id_in ws → is_new rows id ≡ t → not (has_id ws id) ≡ t
new_id rows ws id t theirs is =
    ap (λ ns. not (is_one_of ns id)) (sym theirs) ∙ ap not (sym (one_of rows id)) ∙ not_twice (is_new rows id) ∙ is

-- one that is none of them
pub adds_one : (rows more : List ExecutableView) (x : ExecutableView) (ws after : List NamedBuild) (o : Option NamedBuild) (w : NamedBuild) → Some w ≡ o → is_new rows w.1 ≡ true
    → more ≡ rows ++ x ∷ [] → x.path ≡ w.1 → after ≡ ws ++ w ∷ [] → AddsBuild (map path_of rows) ws o (map path_of more) after
adds_one rows more x ws after o w is new id_put of put theirs = (
  ap (map path_of) id_put ∙ map-append path_of rows (x ∷ []) ∙ ap (λ (n : List ℕ). map path_of rows ++ n ∷ []) of ∙ ap (λ (ns : List (List ℕ)). ns ++ w.1 ∷ []) theirs
      ∙ sym (map-append id_in ws (w ∷ [])) ∙ sym (ap (map id_in) put),
  put ∙ sym (ap (λ t. cond t (ws ++ w ∷ []) ws) (new_id rows ws w.1 true theirs new)) ∙ ap (with_build ws) is,
)

-- one of them
pub adds_known : (rows : List ExecutableView) (ws : List NamedBuild) (o : Option NamedBuild) (w : NamedBuild) → Some w ≡ o → is_new rows w.1 ≡ false → AddsBuild (map path_of rows) ws o (map path_of rows) ws
adds_known rows ws o w is had theirs = (
  theirs,
  sym (ap (λ t. cond t (ws ++ w ∷ []) ws) (new_id rows ws w.1 false theirs had)) ∙ ap (with_build ws) is,
)

-- of no file
pub wants_none : [] ≡ wants_of []
unfolding each_build
wants_none = refl
