-- Executables that are looked up among those of an archive.
use Rattle.std.proofs.Common.{◌≡◌, ◌+◌, ◌<◌, ℕ, Bool, true, false, cond, List, [], ◌∷◌, ◌++◌, length, map, take, get_or, refl, sym, ap, ◌∙◌}
use Rattle.std.specs.Prelude.{◌&&◌}
use Rattle.std.proofs.lemmas.List.{map-append, take_more}
use Rattle.std.proofs.lemmas.List.Elements.{filter-append}
use Rattle.std.specs.List.{filter}
use Rattle.build_replies.specs.NameWords.{is_one_of}
use Rattle.journal_layout.specs.Case.{Case}
use Rattle.case_queries.specs.Collecting.{Wanted, is_named_by, named_by, wanted_case}
use Rattle.case_queries.specs.CollectingWords.{wanted_view}
use Rattle.case_queries.specs.Executables.{executables_in, has_name_of, is_executable_case, named_of}
use Rattle.case_queries.specs.declared.collect_executables.WantedCase.{WantedCase}

-- those that went by, and the next
pub named_more : (names : List (List ℕ)) (ws : List WantedCase) (i : ℕ) (w : WantedCase) (old new : List Wanted) → i < length ws → w ≡ get_or ws i w
    → old ≡ named_of names (map wanted_view (take i ws)) → new ≡ old ++ named_of names (wanted_view w ∷ [])
    → new ≡ named_of names (map wanted_view (take (i + 1) ws))
named_more names ws i w old new within is before after =
    let next : map wanted_view (take (i + 1) ws) ≡ map wanted_view (take i ws) ++ wanted_view w ∷ [] =
    ap (map wanted_view) (take_more ws i w within)
    ∙ map-append wanted_view (take i ws) (get_or ws i w ∷ [])
    ∙ ap (λ (x : WantedCase). map wanted_view (take i ws) ++ wanted_view x ∷ []) (sym is) in
    after ∙ ap (λ (xs : List Wanted). xs ++ named_of names (wanted_view w ∷ [])) before
    ∙ sym (filter-append (has_name_of names) (map wanted_view (take i ws)) (wanted_view w ∷ []))
    ∙ ap (named_of names) (sym next)

-- one case more
again_step : (names : List (List ℕ)) (c : Case) (es ns : List Case) (e t : Bool) → has_name_of names (wanted_case c) ≡ t → named_of names (map wanted_case es) ≡ map wanted_case ns
    → named_of names (map wanted_case (cond e (c ∷ es) es)) ≡ map wanted_case (cond (e && t) (c ∷ ns) ns)
again_step names c es ns false t is rest = rest
again_step names c es ns true true is rest =
    ap (λ b. cond b (wanted_case c ∷ named_of names (map wanted_case es)) (named_of names (map wanted_case es))) is ∙ ap (λ (ws : List Wanted). wanted_case c ∷ ws) rest
again_step names c es ns true false is rest = ap (λ b. cond b (wanted_case c ∷ named_of names (map wanted_case es)) (named_of names (map wanted_case es))) is ∙ rest

-- the executables that have these names are those of all executables that have them
pub named_again : (names : List (List ℕ)) (cases : List Case) → named_of names (executables_in cases) ≡ named_by names cases
named_again names [] = refl
named_again names (c ∷ cs) = again_step names c (filter is_executable_case cs) (filter (is_named_by names) cs) (is_executable_case c) (is_one_of names c.origin.name) refl (named_again names cs)
