-- The core that goes is not pinned, and none goes if all are. It belongs to the heaviest user.
use Rattle.std.proofs.Common.{◌≡◌, ℕ, zero, suc, ◌-◌, ◌≤◌, Bool, true, false, ◌&&◌, cond, List, [], ◌∷◌, length, Option, None, Some, refl, sym, ap, subst, ◌∙◌, arith}
use Rattle.std.proofs.lemmas.Bool.{false≢true, ltb-true, ltb-false}
use Rattle.std.proofs.lemmas.Slice.Eq.{bytes_eq-Decides}
use Rattle.std.specs.List.{AllByRecursion, best_of, filter}
use Rattle.std.specs.Prelude.{nat_lt}
use Rattle.std.specs.Str.{bytes_eq}
use Rattle.journal_layout.specs.Case.{Case}
use Rattle.fair_share.specs.Fairness.{at_place, blocks_of, cores_of, fairest, first_heaviest, heaviest, inner, is_of, may_go_first, of_program, of_user, owner_of, place, weight}
use Rattle.fair_share.specs.Laws.{NoProgramHasMore, NoUserHasMore, TheFirstStays}
use Rattle.fair_share.specs.Owners.{program_of, user_in, user_of}
use Rattle.fair_share.specs.declared.choosing.Scope.TheVariants.{All, User, Program}

none_some : (c : Case) → ◌≡◌ {A = Option Case} None (Some c) → ⊥
none_some c is = cc

some_same : (c d : Case) → ◌≡◌ {A = Option Case} (Some c) (Some d) → c ≡ d
some_same c d is = cc

some_left : (y : Case) (ys : List Case) → y ∷ ys ≡ [] → ⊥
some_left y ys e = cc

both_true : (a b : Bool) → a && b ≡ true → (a ≡ true) × (b ≡ true)
both_true true true is = (refl, refl)
both_true true false is = absurd (false≢true is)
both_true false b is = absurd (false≢true is)

same_bytes : (a b : List ℕ) → bytes_eq a b ≡ true → a ≡ b
same_bytes a b is = (bytes_eq-Decides a b).0 is

-- a case at a place of the cases that pass the test passes it
at_step : (p : Case → Bool) (x c : Case) (rest : List Case) (t : Bool) → p x ≡ t → (k : ℕ) → at_place k (cond t (x ∷ rest) rest) ≡ Some c → ((j : ℕ) → at_place j rest ≡ Some c → p c ≡ true) → p c ≡ true
at_step p x c rest true so zero is more = ap p (sym (some_same x c is)) ∙ so
at_step p x c rest true so (suc k) is more = more k is
at_step p x c rest false never k is more = more k is

at_kept : (p : Case → Bool) (cases : List Case) (c : Case) (k : ℕ) → at_place k (filter p cases) ≡ Some c → p c ≡ true
at_kept p [] c k is = absurd (none_some c is)
at_kept p (x ∷ xs) c k is = at_step p x c (filter p xs) (p x) refl k is (λ j at. at_kept p xs c j at)

-- the core that goes is one of its program's
of_its_program : (o : Option Case) (cases : List Case) (c : Case) → of_program o cases ≡ Some c → (p : Case) × (o ≡ Some p) × (is_of Program (program_of p.origin.name) c ≡ true) × (inner (cores_of Program (program_of p.origin.name) cases) ≡ Some c)
of_its_program None cases c is = absurd (none_some c is)
of_its_program (Some p) cases c is = (p, refl, at_kept (is_of Program (program_of p.origin.name)) cases c (place _) is, is)

of_its_user : (o : Option Case) (cases : List Case) (c : Case) → of_user o cases ≡ Some c
    → (u : Case) × (o ≡ Some u) × (p : Case) × (heaviest User (user_of u.origin.name) Program cases ≡ Some p) × (is_of Program (program_of p.origin.name) c ≡ true) × (inner (cores_of Program (program_of p.origin.name) cases) ≡ Some c)
of_its_user None cases c is = absurd (none_some c is)
of_its_user (Some u) cases c is =
    let one = of_its_program (heaviest User (user_of u.origin.name) Program cases) cases c is in
    (u, refl, one.0, one.1, one.2, one.3)

-- No pinned core goes.
pub loose_fair : (cases : List Case) (c : Case) → fairest cases ≡ Some c → may_go_first c ≡ true
loose_fair cases c is =
    let one = of_its_user (heaviest All [] User cases) cases c is in
    (both_true (may_go_first c) (bytes_eq (program_of c.origin.name) (program_of one.2.origin.name)) one.4).0

none_step : (x : Case) (xs : List Case) (t : Bool) → may_go_first x ≡ t → cond t (x ∷ filter may_go_first xs) (filter may_go_first xs) ≡ [] → (filter may_go_first xs ≡ [] → cores_of All [] xs ≡ []) → cores_of All [] (x ∷ xs) ≡ []
none_step x xs true so is more = absurd (some_left x (filter may_go_first xs) is)
none_step x xs false never is more = ap (λ (b : Bool). cond (b && bytes_eq (owner_of All x.origin.name) []) (x ∷ cores_of All [] xs) (cores_of All [] xs)) never ∙ more is

none_of : (cases : List Case) → filter may_go_first cases ≡ [] → cores_of All [] cases ≡ []
none_of [] is = refl
none_of (x ∷ xs) is = none_step x xs (may_go_first x) refl is (λ e. none_of xs e)

-- If all cores are pinned, none goes.
pub none_fair : (cases : List Case) → filter may_go_first cases ≡ [] → fairest cases ≡ None
none_fair cases none = ap (λ (l : List Case). of_user (first_heaviest (weight User cases) l) cases) (none_of cases none)

-- the heaviest of some is as heavy as each of them, and is as each of them is
module _ (weigh : Case → ℕ) where
  abbrev beats : Case → Case → Bool
  beats d best = nat_lt (weigh best) (weigh d)

  abbrev IsMost : Case → List Case → Type 0
  IsMost a cs = (weigh a ≤ weigh (best_of beats a cs)) × AllByRecursion (λ d. weigh d ≤ weigh (best_of beats a cs)) cs

  most_step : (a x : Case) (xs : List Case) (t : Bool) → nat_lt (weigh a) (weigh x) ≡ t → IsMost (cond t x a) xs
      → (weigh a ≤ weigh (best_of beats (cond t x a) xs)) × (weigh x ≤ weigh (best_of beats (cond t x a) xs)) × AllByRecursion (λ d. weigh d ≤ weigh (best_of beats (cond t x a) xs)) xs
  most_step a x xs true less most = let low = ltb-true (weigh a) (weigh x) less in let far = most.0 in (omega (arith, low, far), far, most.1)
  most_step a x xs false more most = let low = ltb-false (weigh a) (weigh x) more in let far = most.0 in (far, omega (arith, low, far), most.1)

  best_is_most : (cs : List Case) (a : Case) → IsMost a cs
  best_is_most [] a = (omega arith, tt)
  best_is_most (x ∷ xs) a =
      let step = most_step a x xs (beats x a) refl (best_is_most xs (cond (beats x a) x a)) in
      (step.0, (step.1, step.2))

  best_is_so : (P : Case → Type 0) (cs : List Case) (a : Case) → P a → AllByRecursion P cs → P (best_of beats a cs)
  best_is_so P [] a is all = is
  best_is_so P (x ∷ xs) a is all = best_is_so P xs (cond (beats x a) x a) (elim (beats x a) as (λ t. P (cond t x a)) [ true ↦ all.0 | false ↦ is ]) all.1

  first_most : (cs : List Case) (c : Case) → first_heaviest weigh cs ≡ Some c → AllByRecursion (λ d. weigh d ≤ weigh c) cs
  first_most [] c is = absurd (none_some c is)
  first_most (x ∷ xs) c is = let most = best_is_most xs x in subst (λ (b : Case). (weigh x ≤ weigh b) × AllByRecursion (λ d. weigh d ≤ weigh b) xs) (some_same (best_of beats x xs) c is) most

  first_so : (P : Case → Type 0) (cs : List Case) (c : Case) → first_heaviest weigh cs ≡ Some c → AllByRecursion P cs → P c
  first_so P [] c is all = absurd (none_some c is)
  first_so P (x ∷ xs) c is all = subst P (some_same (best_of beats x xs) c is) (best_is_so P xs x all.0 all.1)

all_kept : (p : Case → Bool) (cases : List Case) → AllByRecursion (λ d. p d ≡ true) (filter p cases)
all_kept p [] = tt
all_kept p (x ∷ xs) = kept_step (p x) refl (all_kept p xs)
  where
    kept_step : (t : Bool) → p x ≡ t → AllByRecursion (λ d. p d ≡ true) (filter p xs) → AllByRecursion (λ d. p d ≡ true) (cond t (x ∷ filter p xs) (filter p xs))
    kept_step true so all = (so, all)
    kept_step false never all = all

module _ (cases : List Case) (c : Case) (is : fairest cases ≡ Some c) where
  abbrev found : (u : Case) × (heaviest All [] User cases ≡ Some u) × (p : Case) × (heaviest User (user_of u.origin.name) Program cases ≡ Some p) × (is_of Program (program_of p.origin.name) c ≡ true) × (inner (cores_of Program (program_of p.origin.name) cases) ≡ Some c)
  found = of_its_user (heaviest All [] User cases) cases c is

  same_program : program_of c.origin.name ≡ program_of found.2.origin.name
  same_program = same_bytes (program_of c.origin.name) (program_of found.2.origin.name) (both_true (may_go_first c) (bytes_eq (program_of c.origin.name) (program_of found.2.origin.name)) found.4).1

  program_is : is_of User (user_of found.0.origin.name) found.2 ≡ true
  program_is = first_so (weight Program cases) (λ d. is_of User (user_of found.0.origin.name) d ≡ true) (cores_of User (user_of found.0.origin.name) cases) found.2 found.3 (all_kept (is_of User (user_of found.0.origin.name)) cases)

  same_user : user_of c.origin.name ≡ user_of found.0.origin.name
  same_user =
      ap user_in same_program
      ∙ same_bytes (user_of found.2.origin.name) (user_of found.0.origin.name) (both_true (may_go_first found.2) (bytes_eq (user_of found.2.origin.name) (user_of found.0.origin.name)) program_is).1

  no_user : AllByRecursion (λ d. weight User cases d ≤ weight User cases c) (cores_of All [] cases)
  no_user =
      subst (λ (n : ℕ). AllByRecursion (λ d. weight User cases d ≤ n) (cores_of All [] cases)) (ap (λ (user : List ℕ). blocks_of User user cases) (sym same_user))
      (first_most (weight User cases) (cores_of All [] cases) found.0 found.1)

  goes_within : inner (cores_of Program (program_of c.origin.name) cases) ≡ Some c
  goes_within = subst (λ (program : List ℕ). inner (cores_of Program program cases) ≡ Some c) (sym same_program) found.5

  no_program : AllByRecursion (λ d. weight Program cases d ≤ weight Program cases c) (cores_of User (user_of c.origin.name) cases)
  no_program =
      subst (λ (user : List ℕ). AllByRecursion (λ d. weight Program cases d ≤ weight Program cases c) (cores_of User user cases)) (sym same_user)
      (subst (λ (n : ℕ). AllByRecursion (λ d. weight Program cases d ≤ n) (cores_of User (user_of found.0.origin.name) cases)) (ap (λ (program : List ℕ). blocks_of Program program cases) (sym same_program))
      (first_most (weight Program cases) (cores_of User (user_of found.0.origin.name) cases) found.2 found.3))

pub no_user_has_more : NoUserHasMore
no_user_has_more cases c is = no_user cases c is

pub no_program_has_more : NoProgramHasMore
no_program_has_more cases c is = no_program cases c is

-- which of two or more goes is not the first
not_first : (n : ℕ) → place (suc (suc n)) ≡ 0 → ⊥
not_first n is = by (nat_lt 2 (suc (suc n))) refl is
  where
    by : (t : Bool) → nat_lt 2 (suc (suc n)) ≡ t → cond t (suc (suc n) - 2) (suc (suc n) - 1) ≡ 0 → ⊥
    by true more none = let low = ltb-true 2 (suc (suc n)) more in omega (arith, low, none)
    by false few none = omega (arith, none)

behind_first : (k : ℕ) (c : Case) (cs : List Case) → (k ≡ 0 → ⊥) → at_place k (c ∷ cs) ≡ at_place (k - 1) cs
behind_first zero c cs some = absurd (some refl)
behind_first (suc k) c cs some = let e : k ≡ suc k - 1 = omega arith in ap (λ (j : ℕ). at_place j cs) e

none_at : (k : ℕ) (c : Case) (cs : List Case) → AllByRecursion (λ d. d ≡ c → ⊥) cs → at_place k cs ≡ Some c → ⊥
none_at k c [] others is = none_some c is
none_at zero c (x ∷ xs) others is = others.0 (some_same x c is)
none_at (suc k) c (x ∷ xs) others is = none_at k c xs others.1 is

alone : (c : Case) (rest : List Case) → inner (c ∷ rest) ≡ Some c → AllByRecursion (λ d. d ≡ c → ⊥) rest → rest ≡ []
alone c [] is others = refl
alone c (x ∷ xs) is others =
    absurd (none_at (place (length (c ∷ x ∷ xs)) - 1) c (x ∷ xs) others
    (sym (behind_first (place (length (c ∷ x ∷ xs))) c (x ∷ xs) (not_first (length xs))) ∙ is))

pub the_first_stays : TheFirstStays
the_first_stays cases c rest is cores others = alone c rest (subst (λ (l : List Case). inner l ≡ Some c) cores (goes_within cases c is)) others
