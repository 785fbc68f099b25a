-- A table of the items that take addresses, with their numbers, in another order: what a scan of all items finds.
use Rattle.std.proofs.Common.{◌≡◌, ◌<◌, ◌≤◌, ℕ, zero, suc, ◌+◌, ◌-◌, leb, ltb, cond, Bool, true, false, List, [], ◌∷◌, map, length, get_or, Option, None, Some, All, Contains, min, refl, sym, ap, subst, ◌∙◌, arith, inl, inr}
use Rattle.std.specs.List.{filter, enumerate_from}
use Rattle.std.specs.List.Sorted.{IsPermutation}
use Rattle.std.proofs.lemmas.Bool.{cases_lt, cases_order, cases_Bool, cond-true, true≢false, ne_eqb, and_parts, leb-true, ltb-true}
use Rattle.std.proofs.lemmas.List as lists
use Rattle.std.proofs.lemmas.List.{get_or_default, length-map}
use Rattle.std.proofs.lemmas.List.Elements.{All-nil, All-cons, All-filter, All-contains, All-map, All-weaker, Contains-append_right, Contains-get_or, at_from_Contains, filter_passes}
use Rattle.std.proofs.lemmas.List.Sorted.{Contains-permutation, All-permutation}
use Rattle.std.proofs.lemmas.List.FromFn.{length-enumerate_from, get_or-enumerate_from}
use Rattle.std.proofs.lemmas.Option.{same_Some, none-some}
use Rattle.std.proofs.Math.ListN.{get_or-map}
use Rattle.address_space.specs.Source.{first_from}
use Rattle.address_space.specs.Pieces.{same_number}
use Rattle.address_space.specs.Ranges.{IsAlike}
use Rattle.address_space.proofs.Scanning.{has, has_yes, has_below, has_behind, first_yes, first_no}

-- what is found passes
pub passes : {A : Type 0} (test : A → Bool) (i : ℕ) (xs : List A) (d : ℕ × A) → first_from test i xs ≡ Some d → test d.1 ≡ true
passes test i [] d h = absurd (none-some d h)
passes {A = A} test i (x ∷ xs) d h = elim (cases_Bool (test x)) as (λ _. test d.1 ≡ true) [
  | inl holds ↦ subst (λ (e : ℕ × A). test e.1 ≡ true) (same_Some (i, x) d (sym (first_yes test i x xs holds) ∙ h)) holds
  | inr fails ↦ passes test (i + 1) xs d (sym (first_no test i x xs fails) ∙ h)
]

-- it is at its number
numbered : {A : Type 0} (test : A → Bool) (i : ℕ) (xs : List A) (d : ℕ × A) → first_from test i xs ≡ Some d → (i ≤ d.0) × ((z : A) → get_or xs (d.0 - i) z ≡ d.1)
numbered test i [] d h = absurd (none-some d h)
numbered {A = A} test i (x ∷ xs) d h = elim (cases_Bool (test x)) as (λ _. (i ≤ d.0) × ((z : A) → get_or (x ∷ xs) (d.0 - i) z ≡ d.1)) [
  | inl holds ↦
      let none : i - i ≡ 0 = omega arith in
      subst (λ (e : ℕ × A). (i ≤ e.0) × ((z : A) → get_or (x ∷ xs) (e.0 - i) z ≡ e.1)) (same_Some (i, x) d (sym (first_yes test i x xs holds) ∙ h)) (omega arith, λ z. ap (λ k. get_or (x ∷ xs) k z) none)
  | inr fails ↦
      let rest = numbered test (i + 1) xs d (sym (first_no test i x xs fails) ∙ h) in
      let from = rest.0 in
      let up : d.0 - i ≡ suc (d.0 - (i + 1)) = omega arith in
      (omega arith, λ z. ap (λ k. get_or (x ∷ xs) k z) up ∙ rest.1 z)
]

-- it is one of the items, with its number
listed : {A : Type 0} (test : A → Bool) (i : ℕ) (xs : List A) (d : ℕ × A) → first_from test i xs ≡ Some d → Contains (enumerate_from i xs) d
listed test i [] d h = absurd (none-some d h)
listed {A = A} test i (x ∷ xs) d h = elim (cases_Bool (test x)) as (λ _. Contains (enumerate_from i (x ∷ xs)) d) [
  | inl holds ↦ subst (Contains (enumerate_from i (x ∷ xs))) (same_Some (i, x) d (sym (first_yes test i x xs holds) ∙ h)) (0, omega arith, refl)
  | inr fails ↦ Contains-append_right ((i, x) ∷ []) (enumerate_from (i + 1) xs) d (listed test (i + 1) xs d (sym (first_no test i x xs fails) ∙ h))
]

-- where nothing is found none passes
none_passes : {A : Type 0} (test : A → Bool) (i : ℕ) (xs : List A) → first_from test i xs ≡ None → All (λ (d : ℕ × A). test d.1 ≡ false) (enumerate_from i xs)
none_passes {A = A} test i [] h = All-nil (λ (d : ℕ × A). test d.1 ≡ false)
none_passes {A = A} test i (x ∷ xs) h = elim (cases_Bool (test x)) as (λ _. All (λ (d : ℕ × A). test d.1 ≡ false) (enumerate_from i (x ∷ xs))) [
  | inl holds ↦ absurd (none-some (i, x) (sym h ∙ first_yes test i x xs holds))
  | inr fails ↦ All-cons (λ (d : ℕ × A). test d.1 ≡ false) (i, x) (enumerate_from (i + 1) xs) fails (none_passes test (i + 1) xs (sym (first_no test i x xs fails) ∙ h))
]

-- an element that passes is kept
kept_at : {X : Type 0} (p : X → Bool) (xs : List X) (x : X) (k : ℕ) → k < length xs → get_or xs k x ≡ x → p x ≡ true → Contains (filter p xs) x
kept_at p [] x k h e t = absurd (omega arith)
kept_at p (y ∷ ys) x zero h e t =
    subst (λ l. Contains l x) (sym (cond-true (p y) (y ∷ filter p ys) (filter p ys) (ap p e ∙ t))) (0, omega arith, e)
kept_at p (y ∷ ys) x (suc k) h e t =
    let rest = kept_at p ys x k (omega arith) e t in
    elim (p y) as (λ b. Contains (cond b (y ∷ filter p ys) (filter p ys)) x) [
      | true ↦ Contains-append_right (y ∷ []) (filter p ys) x rest
      | false ↦ rest
    ]

-- the view of an element is among the views of all
contains_map : {X Y : Type 0} (view : X → Y) (xs : List X) (x : X) → Contains xs x → Contains (map view xs) (view x)
contains_map view xs x c = (c.0, rw length-map c.1, get_or-map view xs c.0 x ∙ ap view c.2)

-- each takes addresses
pub some : {A : Type 0} (low past : A → ℕ) (takes : ℕ × A → Bool) → ((d : ℕ × A) → takes d ≡ true → low d.1 < past d.1) → (ws : List A) (table : List (ℕ × A)) → IsPermutation (filter takes (enumerate_from 0 ws)) table → All (λ (d : ℕ × A). low d.1 < past d.1) table
some {A = A} low past takes each ws table moved =
    let kept = filter_passes takes (enumerate_from 0 ws) in
    All-permutation (λ (d : ℕ × A). low d.1 < past d.1) (filter takes (enumerate_from 0 ws)) table moved (All-weaker (λ d. takes d ≡ true) (λ (d : ℕ × A). low d.1 < past d.1) each (filter takes (enumerate_from 0 ws)) kept)

-- an element, where there is one
pub element : {X : Type 0} (xs : List X) (n : ℕ) → n < length xs → X
element [] n h = absurd (omega arith)
element (x ∷ xs) n h = x

-- Of the items the table has those that take addresses, each after the end of the one before.
module _ {A : Type 0} (low past : A → ℕ) (takes : ℕ × A → Bool) (taken : (d : ℕ × A) (b : ℕ) → has low past b d.1 ≡ true → takes d ≡ true) (ws : List A) (table : List (ℕ × A)) (moved : IsPermutation (filter takes (enumerate_from 0 ws)) table) (apart : (i j : ℕ) (d : ℕ × A) → i < j → j < length table → past (get_or table i d).1 ≤ low (get_or table j d).1) where
  abbrev answer : ℕ → Option (ℕ × A)
  answer b = first_from (has low past b) 0 ws

  -- the table has what a scan finds
  found_in : (b : ℕ) (d : ℕ × A) → answer b ≡ Some d → Contains table d
  found_in b d h =
      let c = listed (has low past b) 0 ws d h in
      Contains-permutation (filter takes (enumerate_from 0 ws)) table d moved (kept_at takes (enumerate_from 0 ws) d c.0 c.1 c.2 (taken d b (passes (has low past b) 0 ws d h)))

  -- one does not begin at an address that an earlier one still has
  behind : (b i j : ℕ) (d e : ℕ × A) → get_or table i d ≡ d → get_or table j d ≡ e → i < j → j < length table → b < past d.1 → low e.1 ≤ b → ⊥
  behind b i j d e p q less within end begin =
      let ends = subst (λ (x : ℕ × A). past x.1 ≤ low (get_or table j d).1) p (apart i j d less within) in
      let before = subst (λ (x : ℕ × A). past d.1 ≤ low x.1) q ends in
      omega arith

  -- one at most has an address
  one : (b : ℕ) (d e : ℕ × A) → Contains table d → Contains table e → low d.1 ≤ b → b < past d.1 → low e.1 ≤ b → b < past e.1 → d ≡ e
  one b d e c f p q r s =
      let there = at_from_Contains table d c in
      let other = at_from_Contains table e f in
      elim (cases_order there.0 other.0) as (λ _. d ≡ e) [
        | inl same ↦ sym (there.2 d) ∙ ap (λ k. get_or table k d) same ∙ other.2 d
        | inr apart_from ↦ elim apart_from as (λ _. d ≡ e) [
          | inl less ↦ absurd (behind b there.0 other.0 d e (there.2 d) (other.2 d) less other.1 q r)
          | inr more ↦ absurd (behind b other.0 there.0 e d (other.2 e) (there.2 e) more there.1 s p)
        ]
      ]

  -- what is found has the address
  within : (b : ℕ) (d : ℕ × A) → answer b ≡ Some d → (low d.1 ≤ b) × (b < past d.1)
  within b d h =
      let yes = and_parts (leb (low d.1) b) (ltb b (past d.1)) (passes (has low past b) 0 ws d h) in
      (leb-true (low d.1) b yes.0, ltb-true b (past d.1) yes.1)

  -- an address of one in the table
  pub held : (b : ℕ) (d : ℕ × A) → Contains table d → low d.1 ≤ b → b < past d.1 → answer b ≡ Some d
  held b d c p q = decided (answer b) refl
    where
      decided : (o : Option (ℕ × A)) → answer b ≡ o → answer b ≡ Some d
      decided None h =
          let none = All-filter takes (λ (e : ℕ × A). has low past b e.1 ≡ false) (enumerate_from 0 ws) (none_passes (has low past b) 0 ws h) in
          let moved_none = All-permutation (λ (e : ℕ × A). has low past b e.1 ≡ false) (filter takes (enumerate_from 0 ws)) table moved none in
          absurd (true≢false (sym (has_yes low past b d.1 p q) ∙ All-contains (λ (e : ℕ × A). has low past b e.1 ≡ false) table d moved_none c))
      decided (Some e) h =
          let w = within b e h in
          h ∙ ap Some (one b e d (found_in b e h) c w.0 w.1 p q)

  -- an address of none in the table
  pub missed : (b : ℕ) → All (λ (d : ℕ × A). has low past b d.1 ≡ false) table → answer b ≡ None
  missed b none = decided (answer b) refl
    where
      decided : (o : Option (ℕ × A)) → answer b ≡ o → answer b ≡ None
      decided None h = h
      decided (Some e) h =
          absurd (true≢false (sym (passes (has low past b) 0 ws e h) ∙ All-contains (λ (d : ℕ × A). has low past b d.1 ≡ false) table e none (found_in b e h)))

  -- the table has an item that has an address, with its number
  stands_in : (b k : ℕ) (d : A) → k < length ws → has low past b (get_or ws k d) ≡ true → Contains table (k, get_or ws k d)
  stands_in b k d h has_it =
      let item : ℕ × A = (k, get_or ws k d) in
      let long = length-enumerate_from 0 ws in
      let zero : 0 + k ≡ k = omega arith in
      let there : get_or (enumerate_from 0 ws) k item ≡ item = get_or-enumerate_from 0 ws k item h ∙ ap {B = ℕ × A} (λ n. (n, get_or ws k (get_or ws k d))) zero ∙ ap {B = ℕ × A} (λ x. (k, x)) (get_or_default ws k (get_or ws k d) d h) in
      Contains-permutation (filter takes (enumerate_from 0 ws)) table item moved (kept_at takes (enumerate_from 0 ws) item k (omega arith) there (taken item b has_it))

  -- so no two items have one
  pub never_both : (i j : ℕ) (d : A) (b : ℕ) → i < j → j < length ws → has low past b (get_or ws i d) ≡ true → has low past b (get_or ws j d) ≡ true → ⊥
  never_both i j d b less h p q =
      let first = and_parts (leb (low (get_or ws i d)) b) (ltb b (past (get_or ws i d))) p in
      let second = and_parts (leb (low (get_or ws j d)) b) (ltb b (past (get_or ws j d))) q in
      let same = one b (i, get_or ws i d) (j, get_or ws j d) (stands_in b i d (omega arith) p) (stands_in b j d h q) (leb-true _ b first.0) (ltb-true b _ first.1) (leb-true _ b second.0) (ltb-true b _ second.1) in
      let number : i ≡ j = ap (λ (e : ℕ × A). e.0) same in
      omega arith

  -- after the end of one there is another number
  other_number : (a b : ℕ) (d e : ℕ × A) → answer a ≡ Some d → answer b ≡ Some e → past d.1 ≤ b → d.0 ≡ e.0 → ⊥
  other_number a b d e h g behind_it same =
      let here = numbered (has low past a) 0 ws d h in
      let there = numbered (has low past b) 0 ws e g in
      let item : d.1 ≡ e.1 = sym (here.1 d.1) ∙ ap (λ n. get_or ws (n - 0) d.1) same ∙ there.1 d.1 in
      let w = within b e g in
      let end : past d.1 ≡ past e.1 = ap past item in
      omega arith

  -- so the answer there is another
  other_behind : (a b : ℕ) (d : ℕ × A) → answer a ≡ Some d → past d.1 ≤ b → (o : Option (ℕ × A)) → answer b ≡ o → same_number (Some d) o ≡ false
  other_behind a b d h behind_it None g = refl
  other_behind a b d h behind_it (Some e) g = ne_eqb d.0 e.0 (other_number a b d e h g behind_it)

  -- how far the answer stays the same after an address that one has
  pub held_on : (a limit m : ℕ) (d : ℕ × A) → 0 < limit → Contains table d → low d.1 ≤ a → a < past d.1 → m ≡ min limit (past d.1 - a) → (answer a ≡ Some d) × IsAlike answer a limit m
  held_on a limit m d positive c p q is =
      let here = held a d c p q in (
        here,
        record {
          some = omega arith;
          within = omega arith;
          same = λ k h. held (a + k) d c (omega arith) (omega arith) ∙ sym here;
          longest = λ h. ap (λ o. same_number o (answer (a + m))) here ∙ other_behind a (a + m) d here (omega arith) (answer (a + m)) refl;
        },
      )

-- The same of a list whose elements have those of the table as views.
module _ {A X : Type 0} (low past : A → ℕ) (takes : ℕ × A → Bool) (taken : (d : ℕ × A) (b : ℕ) → has low past b d.1 ≡ true → takes d ≡ true) (each : (d : ℕ × A) → takes d ≡ true → low d.1 < past d.1) (ws : List A) (view : X → ℕ × A) (rows : List X) (moved : IsPermutation (filter takes (enumerate_from 0 ws)) (map view rows)) (apart : (i j : ℕ) (d : X) → i < j → j < length rows → past (view (get_or rows i d)).1 ≤ low (view (get_or rows j d)).1) where
  abbrev reply : ℕ → Option (ℕ × A)
  reply b = first_from (has low past b) 0 ws

  abbrev first_of : X → ℕ
  first_of x = low (view x).1

  abbrev end_of : X → ℕ
  end_of x = past (view x).1

  -- what holds of the elements holds of their views
  viewed : (zs : List X) → ((i j : ℕ) (d : X) → i < j → j < length zs → end_of (get_or zs i d) ≤ first_of (get_or zs j d)) → (i j : ℕ) (d : ℕ × A) → i < j → j < length (map view zs) → past (get_or (map view zs) i d).1 ≤ low (get_or (map view zs) j d).1
  viewed [] h i j d less inside = absurd (omega arith)
  viewed (x ∷ xs) h i j d less inside =
      let bound : j < length (x ∷ xs) = rw (← length-map (x ∷ xs) view) inside in
      let e = get_or_map (x ∷ xs) i x d (omega arith) in
      let f = get_or_map (x ∷ xs) j x d bound in
      subst (λ (y : ℕ × A). past y.1 ≤ low (get_or (map view (x ∷ xs)) j d).1) (sym e) (subst (λ (y : ℕ × A). end_of (get_or (x ∷ xs) i x) ≤ low y.1) (sym f) (h i j x less bound))
    where
      get_or_map : (zs : List X) (k : ℕ) (z : X) (d : ℕ × A) → k < length zs → get_or (map view zs) k d ≡ view (get_or zs k z)
      get_or_map zs k z d h = lists.get_or-map view zs k z d h

  -- no two items have one address
  pub never_two : (i j : ℕ) (d : A) → i < j → j < length ws → (b : ℕ) → has low past b (get_or ws i d) ≡ true → has low past b (get_or ws j d) ≡ true → ⊥
  never_two i j d less h b p q =
      never_both low past takes taken ws (map view rows) moved (viewed rows apart) i j d b less h p q

  -- an element has the address
  pub row_found : (a limit m : ℕ) (x : X) → 0 < limit → Contains rows x → first_of x ≤ a → a < end_of x → m ≡ min limit (end_of x - a) → (reply a ≡ Some (view x)) × IsAlike reply a limit m
  row_found a limit m x positive c p q is =
      held_on low past takes taken ws (map view rows) moved (viewed rows apart) a limit m (view x) positive (contains_map view rows x c) p q is

  -- no element has it: those before number n end before it, the others begin above it
  nowhere_in : (b n : ℕ) → ((k : ℕ) (d : X) → k < n → end_of (get_or rows k d) ≤ b) → ((k : ℕ) (d : X) → n ≤ k → k < length rows → b < first_of (get_or rows k d)) → reply b ≡ None
  nowhere_in b n ended begins =
      missed low past takes taken ws (map view rows) moved (viewed rows apart) b (All-map (λ (d : ℕ × A). has low past b d.1 ≡ false) view rows (λ k d h. elim (cases_lt k n) as (λ _. has low past b (view (get_or rows k d)).1 ≡ false) [
        | inl before ↦ has_behind low past b (view (get_or rows k d)).1 (ended k d before)
        | inr after ↦ has_below low past b (view (get_or rows k d)).1 (begins k d (omega arith) h)
      ]))

  -- each has an address
  takes_some : (x : X) → Contains rows x → first_of x < end_of x
  takes_some x c =
      All-contains (λ (d : ℕ × A). low d.1 < past d.1) (map view rows) (view x) (some low past takes each ws (map view rows) moved) (contains_map view rows x c)

  -- all before number n end at a or below, and those from there on begin above
  module _ (a limit n : ℕ) (positive : 0 < limit) (ended : (k : ℕ) (d : X) → k < n → end_of (get_or rows k d) ≤ a) (begins : (k : ℕ) (d : X) → n ≤ k → k < length rows → a < first_of (get_or rows k d)) where
    -- so it is further on
    ended_on : (b : ℕ) → a ≤ b → (k : ℕ) (d : X) → k < n → end_of (get_or rows k d) ≤ b
    ended_on b up k d h = let e = ended k d h in omega arith

    -- there is none from there on
    none_left : length rows ≤ n → (reply a ≡ None) × IsAlike reply a limit limit
    none_left all =
        let here = nowhere_in a n ended begins in (
          here,
          record {
            some = positive;
            within = omega arith;
            same = λ k h. nowhere_in (a + k) n (ended_on (a + k) (omega arith)) (λ i d l u. absurd (omega arith)) ∙ sym here;
            longest = λ h. absurd (omega arith);
          },
        )

    module _ (rising : (i j : ℕ) (d : X) → i ≤ j → j < length rows → first_of (get_or rows i d) ≤ first_of (get_or rows j d)) (z : X) (more : n < length rows) where
      -- the others begin above what is below the first of them
      begins_on : (b : ℕ) → b < first_of (get_or rows n z) → (k : ℕ) (d : X) → n ≤ k → k < length rows → b < first_of (get_or rows k d)
      begins_on b below k d l u =
          let up = rising n k d l u in
          let same : first_of (get_or rows n d) ≡ first_of (get_or rows n z) = ap first_of (get_or_default rows n d z more) in
          omega arith

      -- how far it is to that one
      one_left : (m : ℕ) → m ≡ min limit (first_of (get_or rows n z) - a) → (reply a ≡ None) × IsAlike reply a limit m
      one_left m is =
          let above = begins n z (omega arith) more in
          let there = Contains-get_or rows n z more in
          let wide = takes_some (get_or rows n z) there in
          let here = nowhere_in a n ended begins in (
            here,
            record {
              some = omega arith;
              within = omega arith;
              same = λ k h. nowhere_in (a + k) n (ended_on (a + k) (omega arith)) (begins_on (a + k) (omega arith)) ∙ sym here;
              longest = λ h. ap (λ o. same_number o (reply (a + m))) here ∙ ap (same_number None) (held low past takes taken ws (map view rows) moved (viewed rows apart) (a + m) (view (get_or rows n z)) (contains_map view rows (get_or rows n z) there) (omega arith) (omega arith));
            },
          )

    -- how far no item has an address
    pub row_missed : (rising : (i j : ℕ) (d : X) → i ≤ j → j < length rows → first_of (get_or rows i d) ≤ first_of (get_or rows j d)) (m : ℕ) → ((d : X) → n < length rows → m ≡ min limit (first_of (get_or rows n d) - a)) → (length rows ≤ n → m ≡ limit) → (reply a ≡ None) × IsAlike reply a limit m
    row_missed rising m before all = elim (cases_lt n (length rows)) as (λ _. (reply a ≡ None) × IsAlike reply a limit m) [
      | inl more ↦
          let z = element rows n more in
          one_left rising z more m (before z more)
      | inr over ↦ rw (all over) (none_left over)
    ]
