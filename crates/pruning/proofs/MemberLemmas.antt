-- What is in a list, and what is picked of it.
use Rattle.std.proofs.Common.{◌≡◌, ◌⊎◌, inl, inr, ◌<◌, ◌≤◌, ℕ, zero, suc, Bool, true, false, cond, ◌&&◌, ◌||◌, ◌==◌, List, [], ◌∷◌, ◌++◌, map, Some, refl, sym, ap, subst, ◌∙◌, arith, ⊎_elim}
use Rattle.std.proofs.lemmas.Bool.{cases_Bool, eq-eqb, eqb-true, false≢true, ne_eqb}
use Rattle.std.proofs.lemmas.List.Sums.{sum_by-cons}
use Rattle.std.specs.List.{AllByRecursion, Contains, count_by, filter, find, list_any}
use Rattle.pruning.specs.Cases.{is_among, number}
use Rattle.pruning.specs.Pruning.{ArePicked}
use Rattle.pruning.specs.declared.cases.LiveCase.{LiveCase}
use Rattle.pruning.proofs.NumberLemmas.{Rises, or_true}

-- an element of a list
abbrev pub In : {X : Type 0} → X → List X → Type 0
In x [] = ⊥
In x (y ∷ ys) = (y ≡ x) ⊎ In x ys

pub from_contains : {X : Type 0} (xs : List X) (x : X) → Contains xs x → In x xs
from_contains [] x (k, lt, is) = absurd (omega (arith, lt))
from_contains (y ∷ ys) x (zero, lt, is) = inl is
from_contains (y ∷ ys) x (suc k, lt, is) = inr (from_contains ys x (k, omega (arith, lt), is))

pub to_contains : {X : Type 0} (xs : List X) (x : X) → In x xs → Contains xs x
to_contains [] x there = absurd there
to_contains (y ∷ ys) x (inl is) = (0, omega arith, is)
to_contains (y ∷ ys) x (inr there) = let c = to_contains ys x there in (suc c.0, (let lt = c.1 in omega (arith, lt)), c.2)

-- of a part of it
pub in_filter : {X : Type 0} (p : X → Bool) (xs : List X) (x : X) → In x (filter p xs) → In x xs × (p x ≡ true)
in_filter p [] x there = absurd there
in_filter {X} p (y ∷ ys) x there = by (in_filter p ys x) (p y) refl there
  where
    by : (In x (filter p ys) → In x ys × (p x ≡ true)) → (t : Bool) → p y ≡ t → In x (cond t (y ∷ filter p ys) (filter p ys)) → In x (y ∷ ys) × (p x ≡ true)
    by rest true e (inl is) = (inl is, ap p (sym is) ∙ e)
    by rest true e (inr there) = (inr (rest there).0, (rest there).1)
    by rest false e there = (inr (rest there).0, (rest there).1)

pub to_filter : {X : Type 0} (p : X → Bool) (xs : List X) (x : X) → In x xs → p x ≡ true → In x (filter p xs)
to_filter p [] x there passes = absurd there
to_filter {X} p (y ∷ ys) x there passes = by (λ more. to_filter p ys x more passes) (p y) refl there
  where
    by : (In x ys → In x (filter p ys)) → (t : Bool) → p y ≡ t → In x (y ∷ ys) → In x (cond t (y ∷ filter p ys) (filter p ys))
    by rest true e (inl is) = inl is
    by rest true e (inr more) = inr (rest more)
    by rest false e (inl is) = absurd (false≢true (sym e ∙ ap p is ∙ passes))
    by rest false e (inr more) = rest more

pub in_map : {X Y : Type 0} (f : X → Y) (xs : List X) (y : Y) → In y (map f xs) → (x : X) × In x xs × (f x ≡ y)
in_map f [] y there = absurd there
in_map f (x ∷ xs) y (inl is) = (x, inl refl, is)
in_map f (x ∷ xs) y (inr there) = let rest = in_map f xs y there in (rest.0, inr rest.1, rest.2)

pub any_in : {X : Type 0} (p : X → Bool) (xs : List X) (x : X) → In x xs → p x ≡ true → list_any p xs ≡ true
any_in p [] x there passes = absurd there
any_in p (y ∷ ys) x (inl is) passes = ap (λ t. t || list_any p ys) (ap p is ∙ passes)
any_in p (y ∷ ys) x (inr there) passes = or_true (p y) (any_in p ys x there passes)

pub in_append : {X : Type 0} (xs ys : List X) (x : X) → In x (xs ++ ys) → In x xs ⊎ In x ys
in_append [] ys x there = inr there
in_append (z ∷ zs) ys x (inl is) = inl (inl is)
in_append (z ∷ zs) ys x (inr there) = ⊎_elim (λ first. inl (inr first)) (λ second. inr second) (in_append zs ys x there)

-- a part of a part
pub filter_twice : {X : Type 0} (p q : X → Bool) (xs : List X) → filter p (filter q xs) ≡ filter (λ x. p x && q x) xs
filter_twice p q [] = refl
filter_twice {X} p q (x ∷ xs) = by (filter_twice p q xs) (p x) (q x) refl
  where
    by : filter p (filter q xs) ≡ filter (λ y. p y && q y) xs → (s t : Bool) → p x ≡ s → filter p (cond t (x ∷ filter q xs) (filter q xs)) ≡ cond (s && t) (x ∷ filter (λ y. p y && q y) xs) (filter (λ y. p y && q y) xs)
    by rest s false e = rest ∙ neither s
      where
        neither : (s : Bool) → filter (λ y. p y && q y) xs ≡ cond (s && false) (x ∷ filter (λ y. p y && q y) xs) (filter (λ y. p y && q y) xs)
        neither true = refl
        neither false = refl
    by rest true true e = ap (λ t. cond t (x ∷ filter p (filter q xs)) (filter p (filter q xs))) e ∙ ap (λ ys. x ∷ ys) rest
    by rest false true e = ap (λ t. cond t (x ∷ filter p (filter q xs)) (filter p (filter q xs))) e ∙ rest

pub map_filter : {X Y : Type 0} (f : X → Y) (p : Y → Bool) (xs : List X) → map f (filter (λ x. p (f x)) xs) ≡ filter p (map f xs)
map_filter f p [] = refl
map_filter {X} {Y} f p (x ∷ xs) = by (map_filter f p xs) (p (f x))
  where
    by : map f (filter (λ y. p (f y)) xs) ≡ filter p (map f xs) → (t : Bool) → map f (cond t (x ∷ filter (λ y. p (f y)) xs) (filter (λ y. p (f y)) xs)) ≡ cond t (f x ∷ filter p (map f xs)) (filter p (map f xs))
    by rest true = ap (λ ys. f x ∷ ys) rest
    by rest false = rest

-- tests that agree at the elements keep the same, find the same
pub same_kept : {X : Type 0} (p q : X → Bool) (xs : List X) → ((x : X) → In x xs → p x ≡ q x) → filter p xs ≡ filter q xs
same_kept p q [] alike = refl
same_kept p q (x ∷ xs) alike =
    ap (λ t. cond t (x ∷ filter p xs) (filter p xs)) (alike x (inl refl)) ∙ ap (λ ys. cond (q x) (x ∷ ys) ys) (same_kept p q xs (λ y there. alike y (inr there)))

pub found_alike : {X : Type 0} (p q : X → Bool) (xs : List X) → ((x : X) → In x xs → p x ≡ true → q x ≡ true) → find p (filter q xs) ≡ find p xs
found_alike p q [] stays = refl
found_alike {X} p q (x ∷ xs) stays = by (found_alike p q xs (λ y there. stays y (inr there))) (q x) (p x) refl refl
  where
    by : find p (filter q xs) ≡ find p xs → (s t : Bool) → q x ≡ s → p x ≡ t → find p (cond s (x ∷ filter q xs) (filter q xs)) ≡ cond t (Some x) (find p xs)
    by rest true t e f = ap (λ u. cond u (Some x) (find p (filter q xs))) f ∙ ap (λ o. cond t (Some x) o) rest
    by rest false true e f = absurd (false≢true (sym e ∙ stays x (inl refl) f))
    by rest false false e f = rest

-- numbers
pub among_in : (ns : List ℕ) (n : ℕ) → is_among ns n ≡ true → In n ns
among_in [] n is = absurd (false≢true is)
among_in (m ∷ ms) n is = by (among_in ms n) (m == n) refl is
  where
    by : (is_among ms n ≡ true → In n ms) → (t : Bool) → m == n ≡ t → (t || is_among ms n) ≡ true → In n (m ∷ ms)
    by rest true e h = inl (eqb-true m n e)
    by rest false e h = inr (rest h)

pub in_among : (ns : List ℕ) (n : ℕ) → In n ns → is_among ns n ≡ true
in_among [] n there = absurd there
in_among (m ∷ ms) n (inl is) = ap (λ t. t || is_among ms n) (eq-eqb m n is)
in_among (m ∷ ms) n (inr there) = or_true (m == n) (in_among ms n there)

-- cases of one number are one
no_other : (c d : LiveCase) (cs : List LiveCase) → AllByRecursion (λ n. number c < n) (map number cs) → In d cs → number c ≡ number d → ⊥
no_other c d [] above there same = there
no_other c d (e ∷ es) above (inl is) same = let less = above.0 in let n = ap number is in omega (arith, less, n, same)
no_other c d (e ∷ es) above (inr there) same = no_other c d es above.1 there same

pub one_case : (cs : List LiveCase) → Rises (map number cs) → (c d : LiveCase) → In c cs → In d cs → number c ≡ number d → c ≡ d
one_case [] rise c d there too same = absurd there
one_case (e ∷ es) rise c d (inl is) (inl too) same = sym is ∙ too
one_case (e ∷ es) rise c d (inl is) (inr too) same = absurd (no_other e d es rise.0 too (ap number is ∙ same))
one_case (e ∷ es) rise c d (inr there) (inl too) same = absurd (no_other e c es rise.0 there (ap number too ∙ sym same))
one_case (e ∷ es) rise c d (inr there) (inr too) same = one_case es rise.1 c d there too same

-- what is picked
pub picked_from : (P : LiveCase → Type 0) (cs : List LiveCase) (ns : List ℕ) → ArePicked P cs ns → (n : ℕ) → In n ns → (c : LiveCase) × In c cs × (number c ≡ n) × P c
picked_from P [] ns is n there = absurd (subst (In n) is there)
picked_from P (c ∷ cs) ns (inl (p, rest, is, more)) n there = by (picked_from P cs rest more n) (subst (In n) is there)
  where
    by : (In n rest → (d : LiveCase) × In d cs × (number d ≡ n) × P d) → In n (number c ∷ rest) → (d : LiveCase) × In d (c ∷ cs) × (number d ≡ n) × P d
    by among (inl same) = (c, inl refl, same, p)
    by among (inr too) = let found = among too in (found.0, inr found.1, found.2, found.3)
picked_from P (c ∷ cs) ns (inr (not_p, more)) n there = let found = picked_from P cs ns more n there in (found.0, inr found.1, found.2, found.3)

pub picked_has : (P : LiveCase → Type 0) (cs : List LiveCase) (ns : List ℕ) → ArePicked P cs ns → (c : LiveCase) → In c cs → P c → In (number c) ns
picked_has P [] ns is c there p = absurd there
picked_has P (d ∷ ds) ns (inl (q, rest, is, more)) c (inl same) p = subst (In (number c)) (sym is) (inl (ap number same))
picked_has P (d ∷ ds) ns (inl (q, rest, is, more)) c (inr there) p = subst (In (number c)) (sym is) (inr (picked_has P ds rest more c there p))
picked_has P (d ∷ ds) ns (inr (not_p, more)) c (inl same) p = absurd (not_p (subst P (sym same) p))
picked_has P (d ∷ ds) ns (inr (not_p, more)) c (inr there) p = picked_has P ds ns more c there p

pub picked_one : (P : LiveCase → Type 0) (cs : List LiveCase) (ns ms : List ℕ) → ArePicked P cs ns → ArePicked P cs ms → ns ≡ ms
picked_one P [] ns ms a b = a ∙ sym b
picked_one P (c ∷ cs) ns ms (inl (p, rest, is, more)) (inl (q, others, too, along)) = is ∙ ap (λ xs. number c ∷ xs) (picked_one P cs rest others more along) ∙ sym too
picked_one P (c ∷ cs) ns ms (inl (p, rest, is, more)) (inr (not_p, along)) = absurd (not_p p)
picked_one P (c ∷ cs) ns ms (inr (not_p, more)) (inl (q, others, too, along)) = absurd (not_p q)
picked_one P (c ∷ cs) ns ms (inr (not_p, more)) (inr (not_q, along)) = picked_one P cs ns ms more along

pub none_there : (ns : List ℕ) → ((n : ℕ) → In n ns → ⊥) → ns ≡ []
none_there [] none = refl
none_there (n ∷ ns) none = absurd (none n (inl refl))

picked_above : (P : LiveCase → Type 0) (m : ℕ) (cs : List LiveCase) (ns : List ℕ) → AllByRecursion (λ n. m < n) (map number cs) → ArePicked P cs ns → AllByRecursion (λ n. m < n) ns
picked_above P m [] ns above is = subst (AllByRecursion (λ n. m < n)) (sym is) tt
picked_above P m (c ∷ cs) ns above (inl (p, rest, is, more)) = subst (AllByRecursion (λ n. m < n)) (sym is) (above.0, picked_above P m cs rest above.1 more)
picked_above P m (c ∷ cs) ns above (inr (not_p, more)) = picked_above P m cs ns above.1 more

pub picked_rises : (P : LiveCase → Type 0) (cs : List LiveCase) (ns : List ℕ) → Rises (map number cs) → ArePicked P cs ns → Rises ns
picked_rises P [] ns rise is = subst Rises (sym is) tt
picked_rises P (c ∷ cs) ns rise (inl (p, rest, is, more)) = subst Rises (sym is) (picked_above P (number c) cs rest rise.0 more, picked_rises P cs rest rise.1 more)
picked_rises P (c ∷ cs) ns rise (inr (not_p, more)) = picked_rises P cs ns rise.1 more

-- a number that is not there, or that rises past the others, is there at most once
pub count_none : (n : ℕ) (ns : List ℕ) → (In n ns → ⊥) → count_by (λ m. m == n) ns ≡ 0
count_none n [] none = refl
count_none n (m ∷ ms) none =
    let first : ◌≡◌ {A = ℕ} (cond (m == n) 1 0) 0 = ap (λ (t : Bool). cond t 1 0) (ne_eqb m n (λ is. none (inl is))) in
    let all = sum_by-cons (λ k. cond (k == n) 1 0) m ms in
    let rest = count_none n ms (λ there. none (inr there)) in
    omega (arith, first, all, rest)

not_above : (n : ℕ) (ns : List ℕ) → AllByRecursion (λ m. n < m) ns → In n ns → ⊥
not_above n [] above there = there
not_above n (m ∷ ms) above (inl is) = let less = above.0 in omega (arith, less, is)
not_above n (m ∷ ms) above (inr there) = not_above n ms above.1 there

pub count_once : (n : ℕ) (ns : List ℕ) → Rises ns → count_by (λ m. m == n) ns ≤ 1
count_once n [] rise = omega arith
count_once n (m ∷ ms) rise =
    let all = sum_by-cons (λ k. cond (k == n) 1 0) m ms in
    ⊎_elim
    (λ (same : (m == n) ≡ true).
    let first : ◌≡◌ {A = ℕ} (cond (m == n) 1 0) 1 = ap (λ (t : Bool). cond t 1 0) same in
    let rest = count_none n ms (λ there. not_above m ms rise.0 (subst (λ k. In k ms) (sym (eqb-true m n same)) there)) in
    omega (arith, first, all, rest))
    (λ (other : (m == n) ≡ false).
    let first : ◌≡◌ {A = ℕ} (cond (m == n) 1 0) 0 = ap (λ (t : Bool). cond t 1 0) other in
    let rest = count_once n ms rise.1 in
    omega (arith, first, all, rest))
    (cases_Bool (m == n))
