-- Why each core is in one group, that of its signature or of its one home.
use Rattle.std.proofs.Common.{◌≡◌, ℕ, zero, suc, ◌+◌, ◌<◌, ◌≤◌, ◌==◌, Bool, true, false, not, ◌&&◌, ◌||◌, cond, List, [], ◌∷◌, ◌++◌, get_or, length, map, Option, None, Some, option_map, refl, sym, ap, subst, ◌∙◌, append_assoc, arith}
use Rattle.std.proofs.Math.Bool.{beq}
use Rattle.std.proofs.lemmas.Bool.{eq-eqb, eqb-false, eqb-true, false≢true, ne_eqb}
use Rattle.std.proofs.lemmas.List.{length-map}
use Rattle.std.proofs.lemmas.List.Elements.{All-cons, All-contains, All-contains_itself, All-filter, All-head, All-map, All-nil, All-tail}
use Rattle.std.proofs.lemmas.List.Folds.{list_any-append}
use Rattle.std.proofs.lemmas.List.Sorted.{All-permutation, sum_by-IsPermutation}
use Rattle.std.proofs.lemmas.List.Sums.{AllPass-from_list_all, sum_by-cons}
use Rattle.std.specs.List.{All, AllByRecursion, Contains, count_by, filter, find, list_all, list_any, sum_by}
use Rattle.std.specs.Prelude.{is_none}
use Rattle.crash_signatures.specs.GroupLaws.{EachCoreIsInOneGroup, HasOneHome, PerhapsHasOneHome, SameGroupIffSameSignature, is_certainly, times_in}
use Rattle.crash_signatures.specs.Grouping.{group_with, grouped_members}
use Rattle.crash_signatures.specs.Groups.{has_no_other, home_in, home_of, if_sole, is_at, is_home, is_in, member_of, members, signatures, with_home}
use Rattle.crash_signatures.specs.declared.groups.Core.{Core}
use Rattle.crash_signatures.specs.declared.groups.Member.{Member}
use Rattle.crash_signatures.proofs.GroupLemmas.{is_other}

abbrev one_if : Bool → ℕ
one_if t = cond t 1 0

count-cons : {X : Type 0} (p : X → Bool) (x : X) (xs : List X) → count_by p (x ∷ xs) ≡ cond (p x) 1 0 + count_by p xs
count-cons p x xs = sum_by-cons (λ y. cond (p y) 1 0) x xs

-- a signature is once among those of the groups, if a member has it
none_of_it : (g : ℕ) (m : Member) (l : List ℕ) → m.group == g ≡ true → count_by (λ s. g == s) (filter (is_other m) l) ≡ 0
none_of_it g m [] is = refl
none_of_it g m (s ∷ l) is = by (none_of_it g m l is) (s == m.group) refl
  where
    by : count_by (λ t. g == t) (filter (is_other m) l) ≡ 0 → (b : Bool) → (s == m.group) ≡ b → count_by (λ t. g == t) (cond (not b) (s ∷ filter (is_other m) l) (filter (is_other m) l)) ≡ 0
    by i true e = i
    by i false e =
        let other : (g == s) ≡ false = ne_eqb g s (λ same. eqb-false s m.group e (sym same ∙ sym (eqb-true m.group g is))) in
        let z : one_if (g == s) ≡ 0 = ap (λ (t : Bool). cond t 1 0) other in
        let c = count-cons (λ t. g == t) s (filter (is_other m) l) in
        omega (arith, z, c, i)

same_count : (g : ℕ) (m : Member) (l : List ℕ) → m.group == g ≡ false → count_by (λ s. g == s) (filter (is_other m) l) ≡ count_by (λ s. g == s) l
same_count g m [] differ = refl
same_count g m (s ∷ l) differ = by (same_count g m l differ) (s == m.group) refl
  where
    by : count_by (λ t. g == t) (filter (is_other m) l) ≡ count_by (λ t. g == t) l → (b : Bool) → (s == m.group) ≡ b → count_by (λ t. g == t) (cond (not b) (s ∷ filter (is_other m) l) (filter (is_other m) l)) ≡ count_by (λ t. g == t) (s ∷ l)
    by i true e =
        let other : (g == s) ≡ false = ne_eqb g s (λ same. eqb-false m.group g differ (sym (eqb-true s m.group e) ∙ sym same)) in
        let z : one_if (g == s) ≡ 0 = ap (λ (t : Bool). cond t 1 0) other in
        let c = count-cons (λ t. g == t) s l in
        omega (arith, z, c, i)
    by i false e =
        let c = count-cons (λ t. g == t) s (filter (is_other m) l) in
        let d = count-cons (λ t. g == t) s l in
        omega (arith, c, d, i)

pub count_signature : (g : ℕ) (ms : List Member) → count_by (λ s. g == s) (signatures ms) ≡ cond (list_any (λ m. m.group == g) ms) 1 0
count_signature g [] = refl
count_signature g (m ∷ ms) = by (count_signature g ms) (m.group == g) refl
  where
    by : count_by (λ s. g == s) (signatures ms) ≡ cond (list_any (λ x. x.group == g) ms) 1 0 → (b : Bool) → (m.group == g) ≡ b → count_by (λ s. g == s) (m.group ∷ filter (is_other m) (signatures ms)) ≡ cond (b || list_any (λ x. x.group == g) ms) 1 0
    by j true e =
        let same : (g == m.group) ≡ true = eq-eqb g m.group (sym (eqb-true m.group g e)) in
        let z : one_if (g == m.group) ≡ 1 = ap (λ (t : Bool). cond t 1 0) same in
        let c = count-cons (λ s. g == s) m.group (filter (is_other m) (signatures ms)) in
        let i = none_of_it g m (signatures ms) e in
        omega (arith, z, c, i)
    by j false e =
        let other : (g == m.group) ≡ false = ne_eqb g m.group (λ is. eqb-false m.group g e (sym is)) in
        let z : one_if (g == m.group) ≡ 0 = ap (λ (t : Bool). cond t 1 0) other in
        let c = count-cons (λ s. g == s) m.group (filter (is_other m) (signatures ms)) in
        let i = same_count g m (signatures ms) e in
        omega (arith, z, c, i, j)

nothing : (t : Bool) → ◌≡◌ {A = ℕ} (cond t 0 0) 0
nothing true = refl
nothing false = refl

-- what one member adds to a group
counted : (a p t : Bool) (k : ℕ) (f : List ℕ) (h : List ℕ) (n : ℕ) → k == n ≡ t
    → count_by (λ j. j == n) (cond (a && beq p false) (k ∷ f) f) + count_by (λ j. j == n) (cond (a && beq p true) (k ∷ h) h)
    ≡ cond t (cond a 1 0) 0 + (count_by (λ j. j == n) f + count_by (λ j. j == n) h)
counted true true t k f h n is =
    let c = count-cons (λ j. j == n) k h in
    let e : one_if (k == n) ≡ one_if t = ap (λ (b : Bool). cond b 1 0) is in
    omega (arith, c, e)
counted true false t k f h n is =
    let c = count-cons (λ j. j == n) k f in
    let e : one_if (k == n) ≡ one_if t = ap (λ (b : Bool). cond b 1 0) is in
    omega (arith, c, e)
counted false p t k f h n is = let z = nothing t in omega (arith, z)

-- the numbers of a group's members, one member more
numbers : ℕ → Bool → List Member → List ℕ
numbers s p ms = map (λ m. m.number) (filter (is_in s p) ms)

numbers-cons : (s : ℕ) (p : Bool) (m : Member) (ms : List Member) → numbers s p (m ∷ ms) ≡ cond (is_in s p m) (m.number ∷ numbers s p ms) (numbers s p ms)
unfolding numbers
numbers-cons s p m ms = elim (is_in s p m) as (λ t. map (λ (x : Member). x.number) (cond t (m ∷ filter (is_in s p) ms) (filter (is_in s p) ms)) ≡ cond t (m.number ∷ map (λ (x : Member). x.number) (filter (is_in s p) ms)) (map (λ (x : Member). x.number) (filter (is_in s p) ms))) [ true ↦ refl | false ↦ refl ]

one_more : (n s : ℕ) (m : Member) (ms : List Member) → times_in n (group_with (m ∷ ms) s) ≡ cond (m.number == n) (cond (m.group == s) 1 0) 0 + times_in n (group_with ms s)
unfolding numbers
one_more n s m ms =
    ap (λ (l : List ℕ). count_by (λ j. j == n) l + count_by (λ j. j == n) (numbers s true (m ∷ ms))) (numbers-cons s false m ms)
    ∙ ap (λ (l : List ℕ). count_by (λ j. j == n) (cond (is_in s false m) (m.number ∷ numbers s false ms) (numbers s false ms)) + count_by (λ j. j == n) l) (numbers-cons s true m ms)
    ∙ counted (m.group == s) m.is_perhaps (m.number == n) m.number (numbers s false ms) (numbers s true ms) n refl

split : (t : Bool) (a b c : ℕ) → c ≡ a + b → cond t c 0 ≡ cond t a 0 + cond t b 0
split true a b c is = is
split false a b c is = refl

-- all groups together
total : ℕ → List ℕ → List Member → ℕ
total n ss ms = sum_by (λ s. times_in n (group_with ms s)) ss

total-cons : (n : ℕ) (ss : List ℕ) (m : Member) (ms : List Member) → total n ss (m ∷ ms) ≡ cond (m.number == n) (count_by (λ s. m.group == s) ss) 0 + total n ss ms
unfolding total
total-cons n [] m ms = let z = nothing (m.number == n) in omega (arith, z)
total-cons n (s ∷ ss) m ms =
    let c = sum_by-cons (λ x. times_in n (group_with (m ∷ ms) x)) s ss in
    let d = sum_by-cons (λ x. times_in n (group_with ms x)) s ss in
    let o = one_more n s m ms in
    let i = total-cons n ss m ms in
    let e = count-cons (λ x. m.group == x) s ss in
    let f = split (m.number == n) (cond (m.group == s) 1 0) (count_by (λ x. m.group == x) ss) (count_by (λ x. m.group == x) (s ∷ ss)) e in
    omega (arith, c, d, o, i, f)

total-nil : (n : ℕ) (ss : List ℕ) → total n ss [] ≡ 0
unfolding total
total-nil n [] = refl
total-nil n (s ∷ ss) = let c = sum_by-cons (λ x. times_in n (group_with [] x)) s ss in let i = total-nil n ss in omega (arith, c, i)

all_counted : (n : ℕ) (ss : List ℕ) (ms : List Member) → AllByRecursion (λ m. count_by (λ s. m.group == s) ss ≡ 1) ms → total n ss ms ≡ count_by (λ m. m.number == n) ms
all_counted n ss [] one = total-nil n ss
all_counted n ss (m ∷ ms) one =
    total-cons n ss m ms ∙ ap (λ (k : ℕ). cond (m.number == n) k 0 + total n ss ms) one.0 ∙ ap (λ (k : ℕ). cond (m.number == n) 1 0 + k) (all_counted n ss ms one.1)
    ∙ sym (count-cons (λ x. x.number == n) m ms)

-- each member's group is one of the signatures
or_one : (a : Bool) → (a || true) ≡ true
or_one true = refl
or_one false = refl

all_there : (before ms : List Member) → AllByRecursion (λ m. list_any (λ x. x.group == m.group) (before ++ ms) ≡ true) ms
all_there before [] = tt
all_there before (m ∷ ms) = (
  list_any-append (λ (x : Member). x.group == m.group) before (m ∷ ms)
      ∙ ap (λ (t : Bool). list_any (λ x. x.group == m.group) before || (t || list_any (λ x. x.group == m.group) ms)) (eq-eqb m.group m.group refl)
      ∙ or_one (list_any (λ x. x.group == m.group) before),
  subst (λ (l : List Member). AllByRecursion (λ x. list_any (λ y. y.group == x.group) l ≡ true) ms) (append_assoc before (m ∷ []) ms) (all_there (before ++ m ∷ []) ms),
)

once_each : (all ms : List Member) → AllByRecursion (λ m. list_any (λ x. x.group == m.group) all ≡ true) ms → AllByRecursion (λ m. count_by (λ s. m.group == s) (signatures all) ≡ 1) ms
once_each all [] there = tt
once_each all (m ∷ ms) there = (count_signature m.group all ∙ ap (λ (t : Bool). cond t 1 0) there.0, once_each all ms there.1)

sum_by-map : {A B : Type 0} (f : A → B) (w : B → ℕ) (xs : List A) → sum_by w (map f xs) ≡ sum_by (λ x. w (f x)) xs
sum_by-map f w [] = refl
sum_by-map f w (x ∷ xs) =
    let a = sum_by-cons w (f x) (map f xs) in
    let b = sum_by-cons (λ y. w (f y)) x xs in
    let i = sum_by-map f w xs in
    omega (arith, a, b, i)

same_number : (c : Core) (o : Option ℕ) → (with_home c o).number ≡ c.number
same_number c None = refl
same_number c (Some home) = refl

numbers_of : (n : ℕ) (all cores : List Core) → count_by (λ m. m.number == n) (map (member_of all) cores) ≡ count_by (λ c. c.number == n) cores
numbers_of n all [] = refl
numbers_of n all (c ∷ cs) =
    let a = count-cons (λ m. m.number == n) (member_of all c) (map (member_of all) cs) in
    let b = count-cons (λ x. x.number == n) c cs in
    let e : ◌≡◌ {A = ℕ} (cond ((member_of all c).number == n) 1 0) (cond (c.number == n) 1 0) = ap (λ (k : ℕ). cond (k == n) 1 0) (same_number c (home_of all c)) in
    let i = numbers_of n all cs in
    omega (arith, a, b, e, i)

pub in_one_group : EachCoreIsInOneGroup
unfolding total
in_one_group cores groups are n =
    let ms : List Member = members cores in
    sum_by-IsPermutation (times_in n) (grouped_members ms) groups are.whole
    ∙ sum_by-map (group_with ms) (times_in n) (signatures ms)
    ∙ all_counted n (signatures ms) ms (once_each ms ms (all_there [] ms))
    ∙ numbers_of n cores cores

-- the certain members of a group are the cores without a home that have its signature
certain_is : (c : Core) (s : ℕ) (o : Option ℕ) → is_in s false (with_home c o) ≡ is_none o && c.signature == s
certain_is c s None = and_one (c.signature == s)
  where
    and_one : (a : Bool) → a && true ≡ a
    and_one true = refl
    and_one false = refl
certain_is c s (Some home) = and_none (home == s)
  where
    and_none : (a : Bool) → a && false ≡ false
    and_none true = refl
    and_none false = refl

cases_are : (all cores : List Core) (s : ℕ) → map (λ m. m.number) (filter (is_in s false) (map (member_of all) cores)) ≡ map (λ c. c.number) (filter (is_certainly all s) cores)
cases_are all [] s = refl
cases_are all (c ∷ cs) s =
    let i = cases_are all cs s in
    let one = certain_is c s (home_of all c) in
    ap (λ (t : Bool). map (λ (m : Member). m.number) (cond t (member_of all c ∷ filter (is_in s false) (map (member_of all) cs)) (filter (is_in s false) (map (member_of all) cs)))) one
    ∙ by i (is_certainly all s c)
  where
    by : map (λ (m : Member). m.number) (filter (is_in s false) (map (member_of all) cs)) ≡ map (λ (x : Core). x.number) (filter (is_certainly all s) cs)
        → (t : Bool) → map (λ (m : Member). m.number) (cond t (member_of all c ∷ filter (is_in s false) (map (member_of all) cs)) (filter (is_in s false) (map (member_of all) cs)))
        ≡ map (λ (x : Core). x.number) (cond t (c ∷ filter (is_certainly all s) cs) (filter (is_certainly all s) cs))
    by i true =
        ap (λ (k : ℕ). k ∷ map (λ (m : Member). m.number) (filter (is_in s false) (map (member_of all) cs))) (same_number c (home_of all c))
        ∙ ap (λ (l : List ℕ). c.number ∷ l) i
    by i false = i

at_most_one : (t : Bool) → cond t 1 0 ≤ 1
at_most_one true = omega arith
at_most_one false = omega arith

-- what is found is among them, and passes
contained : {X : Type 0} (P : X → Bool) (xs : List X) (x : X) → find P xs ≡ Some x → Contains xs x × (P x ≡ true)
contained P [] x is = absurd cc
contained {X} P (y ∷ ys) x is = by (λ found. contained P ys x found) (P y) refl is
  where
    by : (find P ys ≡ Some x → Contains ys x × (P x ≡ true)) → (b : Bool) → P y ≡ b → cond b (Some y) (find P ys) ≡ Some x → Contains (y ∷ ys) x × (P x ≡ true)
    by later true passes same = let e : y ≡ x = cc in ((0, omega arith, e), ap P (sym e) ∙ passes)
    by later false fails found = let r = later found in let l = r.0.1 in ((suc r.0.0, omega (arith, l), r.0.2), r.1)

-- the only home
sole_is : (p : ℕ) (h other : Core) → has_no_other p h.signature other ≡ true → is_home p other ≡ true → other.signature ≡ h.signature
sole_is p h other none is = eqb-true other.signature h.signature (sym (ap (λ (t : Bool). not t || other.signature == h.signature) is) ∙ none)

no_and : (a : Bool) → a && false ≡ false
no_and true = refl
no_and false = refl

module _ (cores : List Core) where
  module _ (c : Core) (s : ℕ) (among : Contains cores c) (missing : c.is_missing ≡ true) (p : ℕ) (at : c.place ≡ Some p) where
    by_all : (h : Core) → find (is_home p) cores ≡ Some h → (t : Bool) → list_all (has_no_other p h.signature) cores ≡ t → cond t (Some h.signature) None ≡ Some s → HasOneHome cores s c.number
    by_all h found true all is =
        let same : h.signature ≡ s = cc in
        record {
          core = c;
          among = among;
          number_is = refl;
          missing = missing;
          place = p;
          at = at;
          home = h;
          home_among = (contained (is_home p) cores h found).0;
          home_is = (contained (is_home p) cores h found).1;
          signed = same;
          sole = λ other there its.
              sole_is p h other (All-contains (λ x. has_no_other p h.signature x ≡ true) cores other (AllPass-from_list_all (has_no_other p h.signature) cores all) there) its ∙ same;
        }
    by_all h found false some is = absurd cc

    by_first : (f : Option Core) → find (is_home p) cores ≡ f → if_sole cores p (option_map (λ (x : Core). x.signature) f) ≡ Some s → HasOneHome cores s c.number
    by_first None none is = absurd cc
    by_first (Some h) found is = by_all h found (list_all (has_no_other p h.signature) cores) refl is

  by_place : (c : Core) (s : ℕ) → Contains cores c → c.is_missing ≡ true → (o : Option ℕ) → c.place ≡ o → home_in cores o ≡ Some s → HasOneHome cores s c.number
  by_place c s among missing None at is = absurd cc
  by_place c s among missing (Some p) at is = by_first c s among missing p at (find (is_home p) cores) refl is

  by_missing : (c : Core) (s : ℕ) → Contains cores c → (t : Bool) → c.is_missing ≡ t → cond t (home_in cores c.place) None ≡ Some s → HasOneHome cores s c.number
  by_missing c s among true missing is = by_place c s among missing c.place refl is
  by_missing c s among false whole is = absurd cc

  home_found : (c : Core) (s : ℕ) → Contains cores c → home_of cores c ≡ Some s → HasOneHome cores s c.number
  home_found c s among is = by_missing c s among c.is_missing refl is

  others : List Core → ℕ → List ℕ
  others cs s = map (λ m. m.number) (filter (is_in s true) (map (member_of cores) cs))

  with_one : (c : Core) (cs : List Core) (s : ℕ) → Contains cores c → All (HasOneHome cores s) (others cs s) → (o : Option ℕ) → home_of cores c ≡ o
      → All (HasOneHome cores s) (map (λ m. m.number) (cond (is_in s true (with_home c o)) (with_home c o ∷ filter (is_in s true) (map (member_of cores) cs)) (filter (is_in s true) (map (member_of cores) cs))))
  unfolding others
  with_one c cs s among rest None is =
      subst (λ (t : Bool). All (HasOneHome cores s) (map (λ (m : Member). m.number) (cond t (with_home c None ∷ filter (is_in s true) (map (member_of cores) cs)) (filter (is_in s true) (map (member_of cores) cs)))))
      (sym (no_and (c.signature == s))) rest
  with_one c cs s among rest (Some h) is = by (h == s) refl
    where
      by : (t : Bool) → (h == s) ≡ t → All (HasOneHome cores s) (map (λ m. m.number) (cond (t && true) (with_home c (Some h) ∷ filter (is_in s true) (map (member_of cores) cs)) (filter (is_in s true) (map (member_of cores) cs))))
      by true same = All-cons (HasOneHome cores s) c.number (map (λ m. m.number) (filter (is_in s true) (map (member_of cores) cs))) (home_found c s among (is ∙ ap Some (eqb-true h s same))) rest
      by false other = rest

  each_perhaps : (cs : List Core) (s : ℕ) → All (Contains cores) cs → All (HasOneHome cores s) (others cs s)
  unfolding others
  each_perhaps [] s among = All-nil (HasOneHome cores s)
  each_perhaps (c ∷ cs) s among =
      with_one c cs s (All-head (Contains cores) c cs among) (each_perhaps cs s (All-tail (Contains cores) c cs among)) (home_of cores c) refl

-- a group has a core that is certain: its first member, or the home of that
some_kept : {A B : Type 0} (p : B → Bool) (f : A → B) (xs : List A) (x : A) (k : ℕ) → k < length xs → get_or xs k x ≡ x → p (f x) ≡ true → 0 < length (filter p (map f xs))
some_kept p f [] x k below is passes = absurd (omega (arith, below))
some_kept p f (y ∷ ys) x zero below is passes =
    subst (λ (t : Bool). 0 < length (cond t (f y ∷ filter p (map f ys)) (filter p (map f ys)))) (sym (ap (λ (z : _). p (f z)) is ∙ passes)) (omega arith)
some_kept p f (y ∷ ys) x (suc k) below is passes = either (some_kept p f ys x k (omega (arith, below)) is passes) (p (f y))
  where
    either : 0 < length (filter p (map f ys)) → (t : Bool) → 0 < length (cond t (f y ∷ filter p (map f ys)) (filter p (map f ys)))
    either some true = omega arith
    either some false = some

not_missing : (a b : Bool) → a && not b ≡ true → b ≡ false
not_missing true true is = absurd (false≢true is)
not_missing true false is = refl
not_missing false b is = absurd (false≢true is)

module _ (cores : List Core) where
  cases_of : ℕ → List ℕ
  cases_of s = (group_with (members cores) s).cases

  -- of a core without a home
  certain_some : (d : Core) → Contains cores d → home_of cores d ≡ None → 0 < length (cases_of d.signature)
  unfolding cases_of
  certain_some d among none =
      let its : is_in d.signature false (member_of cores d) ≡ true =
      ap (λ (o : Option ℕ). is_in d.signature false (with_home d o)) none ∙ ap (λ (t : Bool). t && true) (eq-eqb d.signature d.signature refl) in
      let kept = some_kept (is_in d.signature false) (member_of cores) cores d among.0 among.1 among.2 its in
      let l = length-map (filter (is_in d.signature false) (members cores)) (λ (m : Member). m.number) in
      omega (arith, kept, l)

  by_home : (c : Core) → Contains cores c → (o : Option ℕ) → home_of cores c ≡ o → 0 < length (cases_of (with_home c o).group)
  by_home c among None none = certain_some c among none
  by_home c among (Some h) is =
      let one = home_found cores c h among is in
      let whole : one.home.is_missing ≡ false = not_missing (is_at one.place one.home.place) one.home.is_missing one.home_is in
      subst (λ (s : ℕ). 0 < length (cases_of s)) one.signed (certain_some one.home one.home_among (ap (λ (t : Bool). cond t (home_in cores one.home.place) None) whole))

  each_some : (cs : List Core) → All (Contains cores) cs → All (λ s. 0 < length (cases_of s)) (signatures (map (member_of cores) cs))
  each_some [] among = All-nil (λ s. 0 < length (cases_of s))
  each_some (c ∷ cs) among =
      All-cons (λ s. 0 < length (cases_of s)) (member_of cores c).group (filter (is_other (member_of cores c)) (signatures (map (member_of cores) cs)))
      (by_home c (All-head (Contains cores) c cs among) (home_of cores c) refl)
      (All-filter (is_other (member_of cores c)) (λ s. 0 < length (cases_of s)) (signatures (map (member_of cores) cs)) (each_some cs (All-tail (Contains cores) c cs among)))

pub by_signature : SameGroupIffSameSignature
unfolding cases_of
by_signature cores groups are = record {
  cases = All-permutation (λ g. g.cases ≡ map (λ c. c.number) (filter (is_certainly cores g.signature) cores)) (grouped_members (members cores)) groups are.whole
      (All-map (λ g. g.cases ≡ map (λ c. c.number) (filter (is_certainly cores g.signature) cores)) (group_with (members cores)) (signatures (members cores)) (λ k d below. cases_are cores cores _));
  once = λ s.
      let p = sum_by-IsPermutation (λ g. cond (s == g.signature) 1 0) (grouped_members (members cores)) groups are.whole in
      let m = sum_by-map (group_with (members cores)) (λ g. cond (s == g.signature) 1 0) (signatures (members cores)) in
      let c = count_signature s (members cores) in
      let one = at_most_one (list_any (λ x. x.group == s) (members cores)) in
      omega (arith, p, m, c, one);
  some = All-permutation (λ g. 0 < length g.cases) (grouped_members (members cores)) groups are.whole
      (All-map (λ g. 0 < length g.cases) (group_with (members cores)) (signatures (members cores)) (each_some cores cores (All-contains_itself cores)));
}

pub one_home : PerhapsHasOneHome
unfolding others
one_home cores groups are =
    All-permutation (λ g. All (HasOneHome cores g.signature) g.perhaps) (grouped_members (members cores)) groups are.whole
    (All-map (λ g. All (HasOneHome cores g.signature) g.perhaps) (group_with (members cores)) (signatures (members cores)) (λ k d below. each_perhaps cores cores _ (All-contains_itself cores)))
