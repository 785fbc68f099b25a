-- What holds of a prune.
use Rattle.std.proofs.Common.{◌≡◌, inl, inr, ◌≤◌, ℕ, Bool, true, false, not, cond, ◌&&◌, ◌||◌, ◌==◌, List, [], ◌++◌, map, drop, refl, sym, ap, subst, ◌∙◌, arith, ⊎_elim}
use Rattle.std.proofs.lemmas.Bool.{cases_Bool, false≢true}
use Rattle.std.proofs.lemmas.List.Folds.{list_any-append}
use Rattle.std.proofs.lemmas.List.Sums.{sum_by-append}
use Rattle.std.specs.Bool.{Decides}
use Rattle.std.specs.List.{count_by, filter}
use Rattle.std.specs.List.Sorted.{IsStrictlyIncreasing}
use Rattle.retention.specs.Rule.{IsOneDecision, is_old, is_spare, seq_of, stays as stay_by_rule}
use Rattle.retention.specs.declared.Brief.{Brief}
use Rattle.retention.specs.declared.Policy.{Policy}
use Rattle.pruning.specs.Cases.{brief_of, core_briefs, cores_that_stay, is_among, is_core, number, stays}
use Rattle.pruning.specs.Pruning.{ArePicked, GoesBy, IsPruning}
use Rattle.pruning.specs.PruningLaws.{AreInOrder, PruneIsDone, PrunesExactly, Spares, left}
use Rattle.pruning.specs.declared.cases.LiveCase.{LiveCase}
use Rattle.pruning.proofs.CoreLemmas.{cores_in_order}
use Rattle.pruning.proofs.DecisionLemmas.{goes_from, gone_rises, one_unmet, settled, stays_are, unlimited}
use Rattle.pruning.proofs.MemberLemmas.{In, among_in, count_none, count_once, filter_twice, from_contains, in_among, in_append, in_filter, in_map, map_filter, none_there, one_case, picked_from, picked_has, picked_one, picked_rises, same_kept, to_contains}
use Rattle.pruning.proofs.NumberLemmas.{Rises, increasing, rises}

or_false : (t : Bool) → (t || false) ≡ t
or_false true = refl
or_false false = refl

module _ (policy : Policy) (cases : List LiveCase) (dropped : List ℕ) (unmet : Bool) (order : AreInOrder cases) (p : IsPruning policy cases dropped unmet) where
  rise : Rises (map number cases)
  rise = rises (map number cases) order

  -- the numbers of cores, and those of executables and debug files
  pub core_of : (n : ℕ) → In n p.cores → (c : LiveCase) × In c cases × (is_core c ≡ true) × (number c ≡ n) × (c.brief.pinned ≡ false)
  core_of n there =
      let from = goes_from policy p.decided.count (core_briefs cases) n (subst (In n) p.decided.dropped_are there) in
      let core = in_map brief_of (filter is_core cases) from.0 from.1 in
      let among = in_filter is_core cases core.0 core.1 in
      (core.0, among.0, among.1, ap seq_of core.2 ∙ from.2, ap (λ (b : Brief). b.pinned) core.2 ∙ from.3)

  pub build_of : (n : ℕ) → In n p.builds → (c : LiveCase) × In c cases × (number c ≡ n) × GoesBy (cores_that_stay p.cores cases) c
  build_of n there = picked_from (GoesBy (cores_that_stay p.cores cases)) cases p.builds p.picked n there

  among_both : (n : ℕ) → is_among dropped n ≡ (is_among p.cores n || is_among p.builds n)
  among_both n = ap (λ ns. is_among ns n) p.dropped_are ∙ list_any-append (λ m. m == n) p.cores p.builds

  no_build : (c : LiveCase) → In c cases → is_core c ≡ true → is_among p.builds (number c) ≡ false
  no_build c there core =
      ⊎_elim
      (λ (gone : is_among p.builds (number c) ≡ true).
      let b = build_of (number c) (among_in p.builds (number c) gone) in
      absurd (false≢true (sym b.3.executable ∙ ap is_core (one_case cases rise b.0 c b.1 there b.2) ∙ core)))
      (λ none. none)
      (cases_Bool (is_among p.builds (number c)))

  no_core : (c : LiveCase) → In c cases → is_core c ≡ false → is_among p.cores (number c) ≡ false
  no_core c there executable =
      ⊎_elim
      (λ (gone : is_among p.cores (number c) ≡ true).
      let b = core_of (number c) (among_in p.cores (number c) gone) in
      absurd (false≢true (sym executable ∙ ap is_core (sym (one_case cases rise b.0 c b.1 there b.3)) ∙ b.2)))
      (λ none. none)
      (cases_Bool (is_among p.cores (number c)))

  pub core_among : (c : LiveCase) → In c cases → is_core c ≡ true → is_among dropped (number c) ≡ is_among p.cores (number c)
  core_among c there core = among_both (number c) ∙ ap (λ t. is_among p.cores (number c) || t) (no_build c there core) ∙ or_false (is_among p.cores (number c))

  pub build_among : (c : LiveCase) → In c cases → is_core c ≡ false → is_among dropped (number c) ≡ is_among p.builds (number c)
  build_among c there executable = among_both (number c) ∙ ap (λ t. t || is_among p.builds (number c)) (no_core c there executable)

  -- the cores that stay are those of which no number goes
  pub staying : cores_that_stay p.cores cases ≡ cores_that_stay dropped cases
  staying = same_kept (stays p.cores) (stays dropped) cases (λ c there. alike c there (is_core c) refl)
    where
      alike : (c : LiveCase) → In c cases → (t : Bool) → is_core c ≡ t → stays p.cores c ≡ stays dropped c
      alike c there true core = ap (λ t. is_core c && not t) (sym (core_among c there core))
      alike c there false executable = ap (λ t. t && not (is_among p.cores (number c))) executable ∙ ap (λ t. t && not (is_among dropped (number c))) (sym executable)

  pub builds_decided : (c : LiveCase) → In c cases → is_core c ≡ false → Decides (is_among dropped (number c)) (GoesBy (cores_that_stay dropped cases) c)
  builds_decided c there executable = (
    (λ gone.
        let b = build_of (number c) (among_in p.builds (number c) (sym (build_among c there executable) ∙ gone)) in
        subst (λ cores. GoesBy cores c) staying (subst (GoesBy (cores_that_stay p.cores cases)) (one_case cases rise b.0 c b.1 there b.2) b.3)),
    (λ g.
        build_among c there executable
        ∙ in_among p.builds (number c) (picked_has (GoesBy (cores_that_stay p.cores cases)) cases p.builds p.picked c there (subst (λ cores. GoesBy cores c) (sym staying) g))),
  )

  -- no number twice
  apart : (n : ℕ) → In n p.cores → In n p.builds → ⊥
  apart n first second =
      let b = build_of n second in
      let c = core_of n first in
      false≢true (sym b.3.executable ∙ ap is_core (one_case cases rise b.0 c.0 b.1 c.1 (b.2 ∙ sym c.3)) ∙ c.2)

  cores_rise : Rises p.cores
  cores_rise = subst Rises (sym p.decided.dropped_are) (gone_rises policy p.decided.count (core_briefs cases) (rises (map seq_of (core_briefs cases)) (cores_in_order cases order)))

  pub cores_increase : IsStrictlyIncreasing p.cores
  cores_increase = increasing p.cores cores_rise

  builds_rise : Rises p.builds
  builds_rise = picked_rises (GoesBy (cores_that_stay p.cores cases)) cases p.builds rise p.picked

  pub builds_increase : IsStrictlyIncreasing p.builds
  builds_increase = increasing p.builds builds_rise

  pub once : (n : ℕ) → count_by (λ m. m == n) dropped ≤ 1
  once n =
      let all = ap (count_by (λ m. m == n)) p.dropped_are ∙ sum_by-append (λ m. cond (m == n) 1 0) p.cores p.builds in
      let cores = count_once n p.cores cores_rise in
      let builds = count_once n p.builds builds_rise in
      ⊎_elim
      (λ (there : is_among p.cores n ≡ true). let none = count_none n p.builds (apart n (among_in p.cores n there)) in omega (arith, all, cores, none))
      (λ (not_there : is_among p.cores n ≡ false).
      let none = count_none n p.cores (λ there. false≢true (sym not_there ∙ in_among p.cores n there)) in omega (arith, all, builds, none))
      (cases_Bool (is_among p.cores n))

  -- what is left of the cores
  pub cores_left : filter is_core (left dropped cases) ≡ cores_that_stay dropped cases
  cores_left = filter_twice is_core (λ c. not (is_among dropped (number c))) cases

  pub briefs_left : core_briefs (left dropped cases) ≡ stay_by_rule policy p.decided.count (core_briefs cases)
  briefs_left =
      let kept : Brief → Bool = λ b. not (is_among p.cores (seq_of b)) in
      ap (map brief_of) (cores_left ∙ sym staying ∙ flipped ∙ sym (filter_twice (λ c. not (is_among p.cores (number c))) is_core cases))
      ∙ map_filter brief_of (λ b. not (is_among p.cores (seq_of b))) (filter is_core cases)
      ∙ ap (λ ns. filter (λ b. not (is_among ns (seq_of b))) (core_briefs cases)) p.decided.dropped_are
      ∙ stays_are policy p.decided.count (core_briefs cases) (rises (map seq_of (core_briefs cases)) (cores_in_order cases order))
    where
      both : (a b : Bool) → (a && b) ≡ (b && a)
      both true true = refl
      both true false = refl
      both false true = refl
      both false false = refl

      flipped : cores_that_stay p.cores cases ≡ filter (λ c. not (is_among p.cores (number c)) && is_core c) cases
      flipped = same_kept (stays p.cores) (λ c. not (is_among p.cores (number c)) && is_core c) cases (λ c there. both (is_core c) (not (is_among p.cores (number c))))

pub exactly : IsOneDecision → PrunesExactly
exactly one policy cases dropped unmet order p = record {
  one = λ dropped' unmet' q.
      let cores = one policy (core_briefs cases) p.cores q.cores unmet unmet' p.decided q.decided in
      let builds = picked_one (GoesBy (cores_that_stay p.cores cases)) cases p.builds q.builds p.picked (subst (λ ns. ArePicked (GoesBy (cores_that_stay ns cases)) cases q.builds) (sym cores) q.picked) in
      (p.dropped_are ∙ ap (λ ns. ns ++ p.builds) cores ∙ ap (λ ns. q.cores ++ ns) builds ∙ sym q.dropped_are, one_unmet policy (core_briefs cases) p.cores q.cores unmet unmet' p.decided q.decided);
  once = once policy cases dropped unmet order p;
  cores_rise = cores_increase policy cases dropped unmet order p;
  builds_rise = builds_increase policy cases dropped unmet order p;
  cores = λ decided unmet' d c there core.
      core_among policy cases dropped unmet order p c (from_contains cases c there) core ∙ ap (λ ns. is_among ns (number c)) (one policy (core_briefs cases) p.cores decided unmet unmet' p.decided d);
  builds = λ c there executable. builds_decided policy cases dropped unmet order p c (from_contains cases c there) executable;
}

pub sparing : IsOneDecision → Spares
sparing one policy cases dropped unmet order p = (
  (λ n gone.
      ⊎_elim
      (λ (core : In n p.cores).
      let c = core_of policy cases dropped unmet order p n core in
      record {
        case = c.0;
        there = to_contains cases c.0 c.1;
        number_is = c.3;
        unpinned = c.4;
        either = inl (c.2, λ decided unmet' d. ap (λ ns. is_among ns n) (sym (one policy (core_briefs cases) p.cores decided unmet unmet' p.decided d)) ∙ in_among p.cores n core);
      })
      (λ (build : In n p.builds).
      let c = build_of policy cases dropped unmet order p n build in
      record { case = c.0; there = to_contains cases c.0 c.1; number_is = c.2; unpinned = c.3.unpinned; either = inr (c.3.executable, c.3.build) })
      (in_append p.cores p.builds n (subst (In n) p.dropped_are (among_in dropped n gone)))),
  (λ keep bytes before c there core.
      core_among policy cases dropped unmet order p c (from_contains cases c there) core ∙ ap (λ ns. is_among ns (number c)) (unlimited policy (core_briefs cases) p.cores unmet keep bytes before p.decided)),
)

-- nothing that is left goes
pub done : ((policy : Policy) (n : ℕ) (bs : List Brief) → filter (is_old policy) (stay_by_rule policy n bs) ≡ [])
    → ((policy : Policy) (n : ℕ) (bs : List Brief) → filter (is_spare policy) (stay_by_rule policy n bs) ≡ drop n (filter (is_spare policy) bs)) → PruneIsDone
done old spare policy cases dropped unmet order p again unmet' q =
    let k = p.decided.count in
    let s = settled policy (core_briefs cases) p.cores unmet p.decided (core_briefs (left dropped cases)) (briefs_left policy cases dropped unmet order p)
    (old policy k (core_briefs cases)) (spare policy k (core_briefs cases)) q.cores unmet' q.decided in
    let stay : cores_that_stay q.cores (left dropped cases) ≡ cores_that_stay dropped cases =
    ap (λ ns. cores_that_stay ns (left dropped cases)) s.0 ∙ same_kept (stays []) is_core (left dropped cases) (λ c there. and_true (is_core c)) ∙ cores_left policy cases dropped unmet order p in
    let none : q.builds ≡ [] = none_there q.builds (λ n there.
    let c = picked_from (GoesBy (cores_that_stay q.cores (left dropped cases))) (left dropped cases) q.builds q.picked n there in
    let among = in_filter (λ c. not (is_among dropped (number c))) cases c.0 c.1 in
    let gone = (builds_decided policy cases dropped unmet order p c.0 among.0 c.3.executable).1 (subst (λ cores. GoesBy cores c.0) stay c.3) in
    false≢true (sym (ap not gone) ∙ among.1)) in
    (q.dropped_are ∙ ap (λ ns. ns ++ q.builds) s.0 ∙ none, s.1)
  where
    and_true : (t : Bool) → (t && true) ≡ t
    and_true true = refl
    and_true false = refl
