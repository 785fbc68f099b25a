-- A scan for the first range that has an address, and for how far the answer stays the same.
use Rattle.std.proofs.Common.{◌≡◌, ◌<◌, ◌≤◌, ℕ, ◌+◌, ◌-◌, ◌&&◌, leb, ltb, cond, Bool, true, false, List, [], ◌∷◌, Option, None, Some, min, refl, sym, ap, subst, ◌∙◌, arith, inl, inr}
use Rattle.std.proofs.lemmas.Bool.{le-leb, lt-ltb, lt-leb, le-ltb, and_from, and_left, and_right, ne_eqb, cases_lt, leb-true, leb-false, ltb-true, ltb-false, and_parts, and_cases, cond-true, cond-false}
use Rattle.address_space.specs.Source.{first_from}
use Rattle.address_space.specs.Pieces.{same_number}
use Rattle.address_space.specs.Ranges.{IsAlike}

-- an item with a number below i, or with one from i on if there is one
abbrev pub IsBefore : {A : Type 0} → ℕ → Option (ℕ × A) → Type 0
IsBefore i None = ⊥
IsBefore i (Some x) = x.0 < i

abbrev pub IsFrom : {A : Type 0} → ℕ → Option (ℕ × A) → Type 0
IsFrom i None = Unit {0}
IsFrom i (Some x) = i ≤ x.0

-- ranges by their first address and the one after the last
abbrev pub has : {A : Type 0} → (A → ℕ) → (A → ℕ) → ℕ → A → Bool
has low past b x = leb (low x) b && ltb b (past x)

pub has_yes : {A : Type 0} (low past : A → ℕ) (b : ℕ) (x : A) → low x ≤ b → b < past x → has low past b x ≡ true
has_yes low past b x p q = and_from _ _ (le-leb _ _ p) (lt-ltb _ _ q)

pub has_below : {A : Type 0} (low past : A → ℕ) (b : ℕ) (x : A) → b < low x → has low past b x ≡ false
has_below low past b x p = and_left _ _ (lt-leb _ _ p)

pub has_behind : {A : Type 0} (low past : A → ℕ) (b : ℕ) (x : A) → past x ≤ b → has low past b x ≡ false
has_behind low past b x p = and_right _ _ (le-ltb _ _ p)

has_none : {A : Type 0} (low past : A → ℕ) (b : ℕ) (x : A) → past x ≤ low x → has low past b x ≡ false
has_none low past b x p = elim (cases_lt b (low x)) as (λ _. has low past b x ≡ false) [
  | inl below ↦ has_below low past b x below
  | inr above ↦ has_behind low past b x (omega arith)
]

pub first_yes : {A : Type 0} (test : A → Bool) (i : ℕ) (x : A) (xs : List A) → test x ≡ true → first_from test i (x ∷ xs) ≡ Some (i, x)
first_yes test i x xs h = cond-true (test x) _ _ h

pub first_no : {A : Type 0} (test : A → Bool) (i : ℕ) (x : A) (xs : List A) → test x ≡ false → first_from test i (x ∷ xs) ≡ first_from test (i + 1) xs
first_no test i x xs h = cond-false (test x) _ _ h

weaker : {A : Type 0} (i j : ℕ) (o : Option (ℕ × A)) → i ≤ j → IsFrom j o → IsFrom i o
weaker i j None le h = tt
weaker i j (Some x) le h = omega arith

pub numbers_from : {A : Type 0} (test : A → Bool) (i : ℕ) (xs : List A) → IsFrom i (first_from test i xs)
numbers_from test i [] = tt
numbers_from test i (x ∷ xs) =
    elim (test x) as (λ t. IsFrom i (cond t (Some (i, x)) (first_from test (i + 1) xs))) [
      | true ↦ omega arith
      | false ↦ weaker i (i + 1) (first_from test (i + 1) xs) (omega arith) (numbers_from test (i + 1) xs)
    ]

other_before : {A : Type 0} (i : ℕ) (x : A) (o : Option (ℕ × A)) → IsBefore i o → same_number (Some (i, x)) o ≡ false
other_before i x None h = absurd h
other_before i x (Some y) h = ne_eqb i y.0 (λ e. omega (arith, e))

other_behind : {A : Type 0} (i : ℕ) (x : A) (o : Option (ℕ × A)) → IsFrom (i + 1) o → same_number (Some (i, x)) o ≡ false
other_behind i x None h = refl
other_behind i x (Some y) h = ne_eqb i y.0 (λ e. omega (arith, e))

other_none : {A : Type 0} (i : ℕ) (o : Option (ℕ × A)) → IsBefore i o → same_number None o ≡ false
other_none i None h = absurd h
other_none i (Some y) h = refl

below_more : {A : Type 0} (i : ℕ) (o : Option (ℕ × A)) → IsBefore i o → IsBefore (i + 1) o
below_more i None h = h
below_more i (Some x) h = omega arith

-- Of the whole table the items from number i on are left, and they answer as the whole does, on n addresses from a on.
-- An item that went by has the next address.
pub record Scanned {A : Type 0} (low past : A → ℕ) (ws : List A) (a limit i : ℕ) (xs : List A) (n : ℕ) : Type 0 where
  pub some : 0 < n
  pub within : n ≤ limit
  pub same : (k : ℕ) → k < n → first_from (has low past (a + k)) 0 ws ≡ first_from (has low past (a + k)) i xs
  pub earlier : n < limit → IsBefore i (first_from (has low past (a + n)) 0 ws)

pub begins : {A : Type 0} (low past : A → ℕ) (ws : List A) (a limit : ℕ) → 0 < limit → Scanned low past ws a limit 0 ws limit
begins low past ws a limit h = record {
  some = h;
  within = omega arith;
  same = λ k l. refl;
  earlier = λ l. absurd (omega arith);
}

module _ {A : Type 0} (low past : A → ℕ) (ws : List A) (a limit i : ℕ) (x : A) (xs : List A) (n : ℕ) (s : Scanned low past ws a limit i (x ∷ xs) n) where
  abbrev answer : ℕ → Option (ℕ × A)
  answer b = first_from (has low past b) 0 ws

  -- an address that the item in front has, among those on which what is left answers
  pub at_front : (k : ℕ) → k < n → low x ≤ a + k → a + k < past x → answer (a + k) ≡ Some (i, x)
  at_front k h p q = s.same k h ∙ first_yes (has low past (a + k)) i x xs (has_yes low past (a + k) x p q)

  pub at_others : (k : ℕ) → k < n → has low past (a + k) x ≡ false → answer (a + k) ≡ first_from (has low past (a + k)) (i + 1) xs
  at_others k h p = s.same k h ∙ first_no (has low past (a + k)) i x xs p

  first_at : low x ≤ a → a < past x → answer a ≡ Some (i, x)
  first_at p q =
      let zero : a + 0 ≡ a = omega arith in
      subst (λ b. answer b ≡ Some (i, x)) zero (at_front 0 s.some (omega arith) (omega arith))

  -- the item in front has the address
  pub found : low x ≤ a → a < past x → (m : ℕ) → m ≡ min n (past x - a) → (answer a ≡ Some (i, x)) × IsAlike answer a limit m
  found p q m is =
      let positive = s.some in
      let bound = s.within in (
        first_at p q,
        record {
          some = omega arith;
          within = omega arith;
          same = λ k h. at_front k (omega arith) (omega arith) (omega arith) ∙ sym (first_at p q);
          longest = λ h. subst (λ o. same_number o (answer (a + m)) ≡ false) (sym (first_at p q)) (elim (cases_lt m n) [
            | inl less ↦
                let none = has_behind low past (a + m) x (omega arith) in
                subst (λ o. same_number (Some (i, x)) o ≡ false) (sym (at_others m less none)) (other_behind i x (first_from (has low past (a + m)) (i + 1) xs) (numbers_from (has low past (a + m)) (i + 1) xs))
            | inr all ↦
                let is_n : n ≡ m = omega arith in
                other_before i x (answer (a + m)) (subst (λ j. IsBefore i (answer (a + j))) is_n (s.earlier (omega arith)))
          ]);
        },
      )

  -- it lies below or has no address
  pub passed : ((k : ℕ) → k < n → has low past (a + k) x ≡ false) → Scanned low past ws a limit (i + 1) xs n
  passed none = record {
    some = s.some;
    within = s.within;
    same = λ k h. at_others k h (none k h);
    earlier = λ h. below_more i (answer (a + n)) (s.earlier h);
  }

  -- it begins above
  pub cut_before : a < low x → low x < past x → (m : ℕ) → m ≡ min n (low x - a) → Scanned low past ws a limit (i + 1) xs m
  cut_before p q m is =
      let positive = s.some in
      let bound = s.within in record {
        some = omega arith;
        within = omega arith;
        same = λ k h. at_others k (omega arith) (has_below low past (a + k) x (omega arith));
        earlier = λ h. elim (cases_lt m n) [
          | inl less ↦ subst (IsBefore (i + 1)) (sym (at_front m less (omega arith) (omega arith))) (omega arith)
          | inr all ↦
              let is_n : n ≡ m = omega arith in
              below_more i (answer (a + m)) (subst (λ j. IsBefore i (answer (a + j))) is_n (s.earlier (omega arith)))
        ];
      }

  -- it does not have the address, and m is what is left of the n addresses before it
  pub narrowed : has low past a x ≡ false → (m : ℕ) → m ≡ cond (ltb a (low x) && ltb 0 (past x - low x)) (min n (low x - a)) n → Scanned low past ws a limit (i + 1) xs m
  narrowed none m is = elim (cases_lt a (low x)) [
    | inl above ↦ elim (cases_lt (low x) (past x)) [
      | inl some ↦ cut_before above some m (is ∙ cond-true _ _ _ (and_from _ _ (lt-ltb _ _ above) (lt-ltb _ _ (omega arith))))
      | inr empty ↦
          let e : m ≡ n = is ∙ cond-false _ _ _ (and_right _ _ (le-ltb 0 (past x - low x) (omega arith))) in
          rw e (passed (λ k h. has_none low past (a + k) x empty))
    ]
    | inr below ↦
        let e : m ≡ n = is ∙ cond-false _ _ _ (and_left _ _ (le-ltb _ _ below)) in
        let ended : past x ≤ a = elim (cases_lt a (past x)) [
          | inl more ↦ absurd (elim (and_cases (leb (low x) a) (ltb a (past x)) none) [
            | inl p ↦ omega (arith, leb-false (low x) a p)
            | inr p ↦ omega (arith, ltb-false a (past x) p)
          ])
          | inr done ↦ done
        ] in
        rw e (passed (λ k h. has_behind low past (a + k) x (omega arith)))
  ]

-- nothing is left
pub ended : {A : Type 0} (low past : A → ℕ) (ws : List A) (a limit i : ℕ) (n : ℕ) → Scanned low past ws a limit i [] n → (first_from (has low past a) 0 ws ≡ None) × IsAlike (λ b. first_from (has low past b) 0 ws) a limit n
ended low past ws a limit i n s =
    let zero : a + 0 ≡ a = omega arith in
    let none : first_from (has low past a) 0 ws ≡ None = subst (λ b. first_from (has low past b) 0 ws ≡ None) zero (s.same 0 s.some) in (
      none,
      record {
        some = s.some;
        within = s.within;
        same = λ k h. s.same k h ∙ sym none;
        longest = λ h. subst (λ o. same_number o (first_from (has low past (a + n)) 0 ws) ≡ false) (sym none) (other_none i _ (s.earlier h));
      },
    )

-- The steps of a loop, where an item is known by its first address and its size.
module _ {A : Type 0} (low past : A → ℕ) (ws : List A) (a limit i : ℕ) (x : A) (xs rest : List A) (n : ℕ) (s : Scanned low past ws a limit i rest n) (is : rest ≡ x ∷ xs) (size : ℕ) (ordered : low x ≤ past x) (size_is : size ≡ past x - low x) where
  scan : Scanned low past ws a limit i (x ∷ xs) n
  scan = subst (λ ys. Scanned low past ws a limit i ys n) is s

  pub found_next : (leb (low x) a && ltb a (low x + size)) ≡ true → (m : ℕ) → m ≡ min n (size - (a - low x)) → (first_from (has low past a) 0 ws ≡ Some (i, x)) × IsAlike (λ b. first_from (has low past b) 0 ws) a limit m
  found_next holds m is_m =
      let parts = and_parts (leb (low x) a) (ltb a (low x + size)) holds in
      let below = leb-true (low x) a parts.0 in
      let above = ltb-true a (low x + size) parts.1 in
      found low past ws a limit i x xs n scan below (omega arith) m (omega arith)

  pub passed_next : (leb (low x) a && ltb a (low x + size)) ≡ false → (m : ℕ) → m ≡ cond (ltb a (low x) && ltb 0 size) (min n (low x - a)) n → Scanned low past ws a limit (i + 1) xs m
  passed_next fails m is_m =
      let end : low x + size ≡ past x = omega arith in
      let none : has low past a x ≡ false = subst (λ e. (leb (low x) a && ltb a e) ≡ false) end fails in
      narrowed low past ws a limit i x xs n scan none m (is_m ∙ ap (λ d. cond (ltb a (low x) && ltb 0 d) (min n (low x - a)) n) size_is)

pub ended_next : {A : Type 0} (low past : A → ℕ) (ws : List A) (a limit i : ℕ) (rest : List A) (n : ℕ) → Scanned low past ws a limit i rest n → rest ≡ [] → (first_from (has low past a) 0 ws ≡ None) × IsAlike (λ b. first_from (has low past b) 0 ws) a limit n
ended_next low past ws a limit i rest n s is = ended low past ws a limit i n (subst (λ ys. Scanned low past ws a limit i ys n) is s)
