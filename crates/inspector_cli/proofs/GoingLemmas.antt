-- Which case goes next.
use Rattle.std.proofs.Common.{◌≡◌, Bool, true, false, not, ◌&&◌, cond, List, [], ◌∷◌, ◌++◌, Option, Some, None, refl, sym, ap, subst, ◌∙◌}
use Rattle.std.proofs.lemmas.Bool.{true≢false, false≢true}
use Rattle.std.specs.List.{find, filter}
use Rattle.std.specs.Prelude.{map, option_map, is_some}
use Rattle.journal_layout.specs.Case.{Case, case_of}
use Rattle.journal_layout.specs.declared.entry.Entry.{Entry}
use Rattle.fair_share.specs.FairLaws.{loose_fair, none_fair}
use Rattle.inspector_cli.specs.declared.session.Order.{Order}
use Rattle.inspector_cli.specs.declared.session.Order.TheVariants.{Oldest, Fair}
use Rattle.inspector_cli.specs.Fitting.{frees, is_core, may_free, may_go, may_go_first, next_core, next_to_go, or_else, TheFirstGoes, AllArePinned, NoPinnedOneGoes}
use Rattle.inspector_cli.proofs.FitLemmas.{find_mapped}
use Rattle.inspector_cli.proofs.SlotLemmas.{some_same}

-- the first case that is so: it is so, and none before it is
record IsFirst (p : Case → Bool) (cases : List Case) (c : Case) : Type 0 where
  front : List Case
  back : List Case
  cut : cases ≡ front ++ c ∷ back
  none : filter p front ≡ []
  is : p c ≡ true

none_some : (c : Case) → ◌≡◌ {A = Option Case} None (Some c) → ⊥
none_some c is = cc

first_step : (p : Case → Bool) (x : Case) (xs : List Case) (c : Case) (t : Bool) → p x ≡ t → cond t (Some x) (find p xs) ≡ Some c → (find p xs ≡ Some c → IsFirst p xs c) → IsFirst p (x ∷ xs) c
first_step p x xs c true so is more =
    let same : x ≡ c = some_same x c is in
    record { front = []; back = xs; cut = ap (λ (y : Case). y ∷ xs) same; none = refl; is = ap p (sym same) ∙ so }
first_step p x xs c false never is more =
    let m = more is in
    record {
      front = x ∷ m.front;
      back = m.back;
      cut = ap (λ (l : List Case). x ∷ l) m.cut;
      none = ap (λ (b : Bool). cond b (x ∷ filter p m.front) (filter p m.front)) never ∙ m.none;
      is = m.is;
    }

found_first : (p : Case → Bool) (cases : List Case) (c : Case) → find p cases ≡ Some c → IsFirst p cases c
found_first p [] c is = absurd (none_some c is)
found_first p (x ∷ xs) c is = first_step p x xs c (p x) refl is (λ e. found_first p xs c e)

none_step : (p : Case → Bool) (x : Case) (xs : List Case) (t : Bool) → p x ≡ t → cond t (Some x) (find p xs) ≡ None → (find p xs ≡ None → filter p xs ≡ []) → filter p (x ∷ xs) ≡ []
none_step p x xs true so is more = absurd (none_some x (sym is))
none_step p x xs false never is more = ap (λ (b : Bool). cond b (x ∷ filter p xs) (filter p xs)) never ∙ more is

pub found_none : (p : Case → Bool) (cases : List Case) → find p cases ≡ None → filter p cases ≡ []
found_none p [] is = refl
found_none p (x ∷ xs) is = none_step p x xs (p x) refl is (λ e. found_none p xs e)

loose : (pinned : Bool) → not pinned ≡ true → pinned ≡ false
loose true is = absurd (false≢true is)
loose false is = refl

both_true : (a b : Bool) → a && b ≡ true → (a ≡ true) × (b ≡ true)
both_true true true is = (refl, refl)
both_true true false is = absurd (false≢true is)
both_true false b is = absurd (false≢true is)

some_left : (y : Case) (ys : List Case) → y ∷ ys ≡ [] → ⊥
some_left y ys e = cc

fewer_step : (x : Case) (xs : List Case) (t : Bool) → x.pinned ≡ t → cond (not t) (x ∷ filter may_go xs) (filter may_go xs) ≡ [] → (filter may_go xs ≡ [] → filter may_go_first xs ≡ []) → filter may_go_first (x ∷ xs) ≡ []
fewer_step x xs true so is more = ap (λ (b : Bool). cond (not b && is_core x.origin.kind) (x ∷ filter may_go_first xs) (filter may_go_first xs)) so ∙ more is
fewer_step x xs false never is more = absurd (some_left x (filter may_go xs) is)

-- a core that may go is a case that may
fewer : (cases : List Case) → filter may_go cases ≡ [] → filter may_go_first cases ≡ []
fewer [] is = refl
fewer (x ∷ xs) is = fewer_step x xs x.pinned refl is (λ e. fewer xs e)

module _ (cases : List Case) (c : Case) where
  abbrev Goes : Type 0
  Goes = (c.pinned ≡ false) × (front : List Case) × (back : List Case) × (cases ≡ front ++ c ∷ back) × (filter may_go_first front ≡ []) × (is_core c.origin.kind ≡ false → (filter may_go_first cases ≡ []) × (filter may_go front ≡ []))

  goes_by : (o : Option Case) → find may_go_first cases ≡ o → or_else o (find may_go cases) ≡ Some c → Goes
  goes_by (Some x) found is =
      let m = found_first may_go_first cases c (found ∙ is) in
      let both = both_true (not c.pinned) (is_core c.origin.kind) m.is in
      (loose c.pinned both.0, m.front, m.back, m.cut, m.none, λ exec. absurd (true≢false (sym both.1 ∙ exec)))
  goes_by None found is =
      let m = found_first may_go cases c is in
      (loose c.pinned m.is, m.front, m.back, m.cut, fewer m.front m.none, λ exec. (found_none may_go_first cases found, m.none))

pub first_goes : TheFirstGoes
first_goes cases c is = goes_by cases c (find may_go_first cases) refl is

pinned_by : (cases : List Case) (o : Option Case) → or_else o (find may_go cases) ≡ None → filter may_go cases ≡ []
pinned_by cases (Some x) is = absurd (none_some x (sym is))
pinned_by cases None is = found_none may_go cases is

pub all_pinned : AllArePinned
all_pinned order cases is = pinned_by cases (next_core order cases) is

-- the core that goes next is not pinned
loose_core : (order : Order) (cases : List Case) (c : Case) → next_core order cases ≡ Some c → may_go_first c ≡ true
loose_core Oldest cases c is = (found_first may_go_first cases c is).is
loose_core Fair cases c is = loose_fair cases c is

loose_by : (cases : List Case) (c : Case) (o : Option Case) → ((x : Case) → o ≡ Some x → may_go_first x ≡ true) → or_else o (find may_go cases) ≡ Some c → c.pinned ≡ false
loose_by cases c (Some x) core is = loose c.pinned (both_true (not c.pinned) (is_core c.origin.kind) (core c is)).0
loose_by cases c None core is = loose c.pinned (found_first may_go cases c is).is

pub no_pinned : NoPinnedOneGoes
no_pinned order cases c is = loose_by cases c (next_core order cases) (loose_core order cases) is

-- where no case may go, none goes next
unfound_step : (p : Case → Bool) (x : Case) (xs : List Case) (t : Bool) → p x ≡ t → cond t (x ∷ filter p xs) (filter p xs) ≡ [] → (filter p xs ≡ [] → find p xs ≡ None) → find p (x ∷ xs) ≡ None
unfound_step p x xs true so is more = absurd (some_left x (filter p xs) is)
unfound_step p x xs false never is more = ap (λ (b : Bool). cond b (Some x) (find p xs)) never ∙ more is

unfound : (p : Case → Bool) (cases : List Case) → filter p cases ≡ [] → find p cases ≡ None
unfound p [] is = refl
unfound p (x ∷ xs) is = unfound_step p x xs (p x) refl is (λ e. unfound p xs e)

no_core : (order : Order) (cases : List Case) → filter may_go_first cases ≡ [] → next_core order cases ≡ None
no_core Oldest cases none = unfound may_go_first cases none
no_core Fair cases none = none_fair cases none

pub next_may : (order : Order) (cases : List Case) (c : Case) → next_to_go order cases ≡ Some c → filter may_go cases ≡ [] → ⊥
next_may order cases c is none =
    none_some c (sym (ap (λ (o : Option Case). or_else o (find may_go cases)) (no_core order cases (fewer cases none)) ∙ unfound may_go cases none) ∙ is)

-- where no entry is found that frees a block, no case may
pub none_frees : {X : Type 0} (f : X → Entry) (es : List Entry) (cs : List Case) (o : Option X) (t : Bool) → t ≡ false → t ≡ is_some o → option_map f o ≡ find frees es → map case_of es ≡ cs → filter may_free cs ≡ []
none_frees f es cs None t is some found same =
    subst (λ (l : List Case). filter may_free l ≡ []) same (found_none may_free (map case_of es) (find_mapped may_free es ∙ ap (option_map case_of) (sym found)))
none_frees f es cs (Some x) t is some found same = absurd (true≢false (sym some ∙ is))
