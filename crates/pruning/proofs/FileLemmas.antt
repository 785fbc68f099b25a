-- What cores that go map does not count.
use Rattle.std.proofs.Common.{◌≡◌, inl, inr, ℕ, Bool, true, false, not, cond, ◌&&◌, ◌||◌, List, [], ◌∷◌, map, refl, sym, ap, subst, ◌∙◌}
use Rattle.std.specs.List.{AllZip, filter, list_any}
use Rattle.build_ids.specs.BuildName.{IsNameOf}
use Rattle.retention.specs.Rule.{IsDecision}
use Rattle.retention.specs.declared.Brief.{Brief}
use Rattle.pruning.specs.Cases.{brief_of, core_briefs, cores_that_stay, files_in, holds_core, is_among, is_core, is_named, mapped_by, named, names, needed, needs, needs_id, number, stays}
use Rattle.pruning.specs.Pruning.{ArePicked, Goes}
use Rattle.pruning.specs.PruningLaws.{CoresThatGoNeedNoFiles, IsSameCase}
use Rattle.pruning.specs.declared.cases.Content.{Content}
use Rattle.pruning.specs.declared.cases.Content.TheVariants.{Core, Executable}
use Rattle.pruning.specs.declared.cases.LiveCase.{LiveCase}
use Rattle.pruning.specs.declared.cases.MappedFile.{MappedFile}
use Rattle.pruning.proofs.LawLemmas.{core_among}
use Rattle.pruning.proofs.MemberLemmas.{In}

-- each pair, of which the first is among the cases
zip_more : (R S : LiveCase → LiveCase → Type 0) (xs ys : List LiveCase) → ((x y : LiveCase) → In x xs → R x y → S x y) → AllZip R xs ys → AllZip S xs ys
zip_more R S [] [] to all = tt
zip_more R S [] (y ∷ ys) to all = all
zip_more R S (x ∷ xs) [] to all = all
zip_more R S (x ∷ xs) (y ∷ ys) to all = (to x y (inl refl) all.0, zip_more R S xs ys (λ u v there. to u v (inr there)) all.1)

-- the cores are the same to the retention rule
same_briefs : (gone : List ℕ) (xs ys : List LiveCase) → AllZip (IsSameCase gone) xs ys → core_briefs xs ≡ core_briefs ys
same_briefs gone [] [] all = refl
same_briefs gone [] (y ∷ ys) all = absurd all
same_briefs gone (x ∷ xs) [] all = absurd all
same_briefs gone (x ∷ xs) (y ∷ ys) all =
    first (is_core x) ∙ ap (λ (b : Brief). cond (is_core x) (b ∷ core_briefs xs) (core_briefs xs)) all.0.brief
    ∙ ap (λ t. cond t (brief_of y ∷ core_briefs xs) (core_briefs xs)) all.0.kind ∙ ap (λ bs. cond (is_core y) (brief_of y ∷ bs) bs) (same_briefs gone xs ys all.1) ∙ sym (last (is_core y))
  where
    first : (t : Bool) → map brief_of (cond t (x ∷ filter is_core xs) (filter is_core xs)) ≡ cond t (brief_of x ∷ core_briefs xs) (core_briefs xs)
    first true = refl
    first false = refl

    last : (t : Bool) → map brief_of (cond t (y ∷ filter is_core ys) (filter is_core ys)) ≡ cond t (brief_of y ∷ core_briefs ys) (core_briefs ys)
    last true = refl
    last false = refl

-- a test of the cores that stay
some_stays : (test : LiveCase → Bool) (gone : List ℕ) (c : LiveCase) (cs : List LiveCase) → list_any test (cores_that_stay gone (c ∷ cs)) ≡ ((stays gone c && test c) || list_any test (cores_that_stay gone cs))
some_stays test gone c cs = by (stays gone c)
  where
    by : (t : Bool) → list_any test (cond t (c ∷ cores_that_stay gone cs) (cores_that_stay gone cs)) ≡ ((t && test c) || list_any test (cores_that_stay gone cs))
    by true = refl
    by false = refl

same_stays : (test : LiveCase → Bool) (gone : List ℕ) (x y : LiveCase) → is_core x ≡ is_core y → number x ≡ number y → (is_among gone (number x) ≡ false → test x ≡ test y) → (stays gone x && test x) ≡ (stays gone y && test y)
same_stays test gone x y kind same alike = by (is_among gone (number x)) refl ∙ ap (λ t. (t && not (is_among gone (number x))) && test y) kind ∙ ap (λ n. (is_core y && not (is_among gone n)) && test y) same
  where
    and_false : (a : Bool) → (a && false) ≡ false
    and_false true = refl
    and_false false = refl

    by : (t : Bool) → is_among gone (number x) ≡ t → ((is_core x && not (is_among gone (number x))) && test x) ≡ ((is_core x && not (is_among gone (number x))) && test y)
    by true e =
        ap (λ t. (is_core x && not t) && test x) e ∙ ap (λ t. t && test x) (and_false (is_core x))
        ∙ sym (ap (λ t. (is_core x && not t) && test y) e ∙ ap (λ t. t && test y) (and_false (is_core x)))
    by false e = ap (λ t. (is_core x && not (is_among gone (number x))) && t) (alike e)

same_tests : (test : LiveCase → Bool) (gone : List ℕ) (xs ys : List LiveCase) → AllZip (λ x y. (is_core x ≡ is_core y) × (number x ≡ number y) × (is_among gone (number x) ≡ false → test x ≡ test y)) xs ys
    → list_any test (cores_that_stay gone xs) ≡ list_any test (cores_that_stay gone ys)
same_tests test gone [] [] all = refl
same_tests test gone [] (y ∷ ys) all = absurd all
same_tests test gone (x ∷ xs) [] all = absurd all
same_tests test gone (x ∷ xs) (y ∷ ys) all =
    some_stays test gone x xs ∙ ap (λ t. t || list_any test (cores_that_stay gone xs)) (same_stays test gone x y all.0.0 all.0.1 all.0.2)
    ∙ ap (λ t. (stays gone y && test y) || t) (same_tests test gone xs ys all.1) ∙ sym (some_stays test gone y ys)

-- what is picked
same_goes : (needed named needed' named' : List ℕ → Bool) → ((id : List ℕ) → needed id ≡ needed' id) → ((name : List ℕ) → named name ≡ named' name) → (gone : List ℕ) (c d : LiveCase) → IsSameCase gone c d
    → Goes needed named c → Goes needed' named' d
same_goes needed named needed' named' ids names gone c d same g = record {
  executable = sym same.kind ∙ g.executable;
  unpinned = ap (λ (b : Brief). b.pinned) (sym same.brief) ∙ g.unpinned;
  build = record { id = g.build.id; bytes = g.build.bytes; named = subst (IsNameOf g.build.id) same.name g.build.named };
  not_needed = sym (ids g.build.id) ∙ g.not_needed;
  not_named = sym (ap named same.name ∙ names d.name.now) ∙ g.not_named;
}

back : (gone : List ℕ) (c d : LiveCase) → IsSameCase gone c d → IsSameCase gone d c
back gone c d same = record {
  name = sym same.name;
  brief = sym same.brief;
  kind = sym same.kind;
  needs = λ stays id. sym (same.needs (ap (λ (b : Brief). is_among gone b.seq) same.brief ∙ stays) id);
  names = λ stays name. sym (same.names (ap (λ (b : Brief). is_among gone b.seq) same.brief ∙ stays) name);
}

same_picked : (needed named needed' named' : List ℕ → Bool) → ((id : List ℕ) → needed id ≡ needed' id) → ((name : List ℕ) → named name ≡ named' name) → (gone : List ℕ) (xs ys : List LiveCase) (ns : List ℕ)
    → AllZip (IsSameCase gone) xs ys → ArePicked (Goes needed named) xs ns → ArePicked (Goes needed' named') ys ns
same_picked needed named needed' named' ids names gone [] [] ns all is = is
same_picked needed named needed' named' ids names gone [] (y ∷ ys) ns all is = absurd all
same_picked needed named needed' named' ids names gone (x ∷ xs) [] ns all is = absurd all
same_picked needed named needed' named' ids names gone (x ∷ xs) (y ∷ ys) ns all (inl (g, rest, is, more)) =
    inl (
      same_goes needed named needed' named' ids names gone x y all.0 g,
      rest,
      is ∙ ap (λ (b : Brief). b.seq ∷ rest) all.0.brief,
      same_picked needed named needed' named' ids names gone xs ys rest all.1 more,
    )
same_picked needed named needed' named' ids names gone (x ∷ xs) (y ∷ ys) ns all (inr (not_g, more)) =
    inr (
      (λ g. not_g (same_goes needed' named' needed named (λ id. sym (ids id)) (λ name. sym (names name)) gone y x (back gone x y all.0) g)),
      same_picked needed named needed' named' ids names gone xs ys ns all.1 more,
    )

-- an executable maps nothing
maps_none : (content : Content) → holds_core content ≡ false → files_in content ≡ []
maps_none (Core files) e = cc
maps_none Executable e = refl

pub no_files : CoresThatGoNeedNoFiles
no_files policy cases dropped unmet order p others all = record {
  cores = p.cores;
  builds = p.builds;
  dropped_are = p.dropped_are;
  decided = subst (λ bs. IsDecision policy bs p.cores unmet) (same_briefs dropped cases others all) p.decided;
  picked = same_picked (needed (cores_that_stay p.cores cases)) (named (cores_that_stay p.cores cases)) (needed (cores_that_stay p.cores others)) (named (cores_that_stay p.cores others))
      (λ id. same_tests (needs id) p.cores cases others (alike (needs_id id) (λ x y same stays. same.needs stays id)))
      (λ name. same_tests (names name) p.cores cases others (alike (is_named name) (λ x y same stays. same.names stays name)))
      dropped cases others p.builds all p.picked;
}
  where
    one : (q : MappedFile → Bool) (x y : LiveCase) → In x cases → IsSameCase dropped x y → (is_among dropped (number x) ≡ false → list_any q (mapped_by x) ≡ list_any q (mapped_by y))
        → is_among p.cores (number x) ≡ false → (t : Bool) → is_core x ≡ t → list_any q (mapped_by x) ≡ list_any q (mapped_by y)
    one q x y there same given stays true core = given (core_among policy cases dropped unmet order p x there core ∙ stays)
    one q x y there same given stays false executable = ap (list_any q) (maps_none x.content executable) ∙ sym (ap (list_any q) (maps_none y.content (sym same.kind ∙ executable)))

    alike : (q : MappedFile → Bool) → ((x y : LiveCase) → IsSameCase dropped x y → is_among dropped (number x) ≡ false → list_any q (mapped_by x) ≡ list_any q (mapped_by y))
        → AllZip (λ x y. (is_core x ≡ is_core y) × (number x ≡ number y) × (is_among p.cores (number x) ≡ false → list_any q (mapped_by x) ≡ list_any q (mapped_by y))) cases others
    alike q given = zip_more (IsSameCase dropped) _ cases others
        (λ x y there same. (same.kind, ap (λ (b : Brief). b.seq) same.brief, λ stays. one q x y there same (given x y same) stays (is_core x) refl)) all
