-- How the blocks of listed cases pass to the free ones and back.
use Rattle.std.proofs.Common.{◌≡◌, inl, inr, ℕ, ◌+◌, ◌<◌, ◌≤◌, Bool, true, false, ◌||◌, cond, nat_eq, List, [], ◌∷◌, ◌++◌, length, map, get_or, take, drop, None, Some, refl, sym, ap, ◌∙◌, subst, arith}
use Rattle.std.specs.Prelude.{nat_lt}
use Rattle.std.proofs.lemmas.Bool.{cases_eq, eq-eqb, ne_eqb}
use Rattle.std.proofs.lemmas.List.{append-nil, length-append, take-append-drop, take_more}
use Rattle.std.proofs.lemmas.List.Folds.{list_any-append}
use Rattle.extents.specs.FreeSet.{is_free, uses, one_if}
use Rattle.extents.specs.FreeLaws.{uses_append, same_flags}
use Rattle.journal_layout.specs.Case.{Case}
use Rattle.journal_layout.specs.Folding.{is_among, used_blocks}
use Rattle.journal_layout.specs.Live.{gone, seq_of_case}
use Rattle.journal_layout.specs.Soundness.{Rise, case_numbered}
use Rattle.intake.specs.Balance.{AreFree, AreHeld, Balances}

pub gone-append : (seqs : List ℕ) (xs ys : List Case) → gone seqs (xs ++ ys) ≡ gone seqs xs ++ gone seqs ys
gone-append seqs [] ys = refl
gone-append seqs (c ∷ rest) ys =
    elim (is_among seqs c.seq) as (λ t. cond t (c ∷ gone seqs (rest ++ ys)) (gone seqs (rest ++ ys)) ≡ cond t (c ∷ gone seqs rest) (gone seqs rest) ++ gone seqs ys) [
      | true ↦ ap (λ (l : List Case). c ∷ l) (gone-append seqs rest ys)
      | false ↦ gone-append seqs rest ys
    ]

-- the cases that have one number: the case of it
gone_above : (seq last : ℕ) (cases : List Case) → seq ≤ last → Rise last (map seq_of_case cases) → gone (seq ∷ []) cases ≡ []
gone_above seq last [] low rise = refl
gone_above seq last (c ∷ rest) low rise =
    let other : nat_eq c.seq seq ≡ false = ne_eqb c.seq seq (λ e. let r = rise.0 in omega (arith, e, low, r)) in
    ap (λ t. cond (t || false) (c ∷ gone (seq ∷ []) rest) (gone (seq ∷ []) rest)) other
    ∙ gone_above seq c.seq rest (let r = rise.0 in omega (arith, low, r)) rise.1

pub gone_one : (seq last : ℕ) (cases : List Case) (c : Case) → Rise last (map seq_of_case cases) → Some c ≡ case_numbered seq cases → gone (seq ∷ []) cases ≡ c ∷ []
gone_one seq last [] c rise is = absurd (cc)
gone_one seq last (x ∷ rest) c rise is =
    elim (cases_eq x.seq seq) as (λ _. gone (seq ∷ []) (x ∷ rest) ≡ c ∷ []) [
      | inl same ↦
          let e = eq-eqb x.seq seq same in
          let found : Some c ≡ Some x = is ∙ ap (λ t. cond t (Some x) (case_numbered seq rest)) e in
          let one : c ≡ x = cc in
          ap (λ t. cond (t || false) (x ∷ gone (seq ∷ []) rest) (gone (seq ∷ []) rest)) e
          ∙ ap (λ (l : List Case). x ∷ l) (gone_above seq x.seq rest (omega (arith, same)) rise.1)
          ∙ ap (λ (y : Case). y ∷ []) (sym one)
      | inr other ↦
          let e = ne_eqb x.seq seq other in
          ap (λ t. cond (t || false) (x ∷ gone (seq ∷ []) rest) (gone (seq ∷ []) rest)) e
          ∙ gone_one seq x.seq rest c rise.1 (is ∙ ap (λ t. cond t (Some x) (case_numbered seq rest)) e)
    ]

gone_absent : (seq : ℕ) (cases : List Case) → None ≡ case_numbered seq cases → gone (seq ∷ []) cases ≡ []
gone_absent seq [] none = refl
gone_absent seq (c ∷ rest) none =
    elim (cases_eq c.seq seq) as (λ _. gone (seq ∷ []) (c ∷ rest) ≡ []) [
      | inl same ↦ absurd (let e : None ≡ Some c = none ∙ ap (λ t. cond t (Some c) (case_numbered seq rest)) (eq-eqb c.seq seq same) in cc)
      | inr other ↦
          let e = ne_eqb c.seq seq other in
          ap (λ t. cond (t || false) (c ∷ gone (seq ∷ []) rest) (gone (seq ∷ []) rest)) e
          ∙ gone_absent seq rest (none ∙ ap (λ t. cond t (Some c) (case_numbered seq rest)) e)
    ]

-- and their blocks
pub blocks_numbered : (seq : ℕ) (cases : List Case) (c : Case) → Rise 0 (map seq_of_case cases) → Some c ≡ case_numbered seq cases → used_blocks (gone (seq ∷ []) cases) ≡ c.blocks
blocks_numbered seq cases c rise is = ap used_blocks (gone_one seq 0 cases c rise is) ∙ append-nil c.blocks

pub blocks_absent : (seq : ℕ) (cases : List Case) → None ≡ case_numbered seq cases → used_blocks (gone (seq ∷ []) cases) ≡ []
blocks_absent seq cases none = ap used_blocks (gone_absent seq cases none)

-- no number is in both lists
abbrev Apart : List ℕ → List ℕ → Type 0
Apart xs ys = (n : ℕ) → is_among xs n ≡ true → is_among ys n ≡ false

second_of : (a b : Bool) → (a || b) ≡ false → b ≡ false
second_of true b neither = absurd (cc)
second_of false b neither = neither

-- a number is none of those that rise above it
none_above : (last n : ℕ) (ys : List ℕ) → n ≤ last → Rise last ys → is_among ys n ≡ false
none_above last n [] low rise = refl
none_above last n (y ∷ ys) low rise =
    let above = rise.0 in
    ap (λ (t : Bool). t || is_among ys n) (ne_eqb n y (λ same. absurd (omega (arith, same)))) ∙ none_above y n ys (omega arith) rise.1

-- numbers that rise are apart from those before them
rise_apart : (last : ℕ) (xs ys : List ℕ) → Rise last (xs ++ ys) → Apart xs ys
rise_apart last [] ys rise n among = absurd (let e : false ≡ true = among in cc)
rise_apart last (x ∷ xs) ys rise n among =
    elim (cases_eq n x) as (λ _. is_among ys n ≡ false) [
      | inl same ↦ second_of (is_among xs n) (is_among ys n) (sym (list_any-append (nat_eq n) xs ys) ∙ none_above x n (xs ++ ys) (omega (arith, same)) rise.1)
      | inr other ↦ rise_apart x xs ys rise.1 n (sym (ap (λ (t : Bool). t || is_among xs n) (ne_eqb n x other)) ∙ among)
    ]

rise_front : (last : ℕ) (xs ys : List ℕ) → Rise last (xs ++ ys) → Rise last xs
rise_front last [] ys rise = tt
rise_front last (x ∷ xs) ys rise = (rise.0, rise_front x xs ys rise.1)

-- A number that is had of a list of blocks, and adds up: how often one of them stands there, and how many they are.
module _ (count : List ℕ → ℕ) (none : count [] ≡ 0) (sum : (x y : List ℕ) → count (x ++ y) ≡ count x + count y) where
  -- of the cases of some numbers, with one case more
  one_more : (seqs : List ℕ) (c : Case) (rest : List Case) → count (used_blocks (gone seqs (c ∷ rest))) ≡ cond (is_among seqs c.seq) (count c.blocks) 0 + count (used_blocks (gone seqs rest))
  one_more seqs c rest =
      elim (is_among seqs c.seq) as (λ t. count (used_blocks (cond t (c ∷ gone seqs rest) (gone seqs rest))) ≡ cond t (count c.blocks) 0 + count (used_blocks (gone seqs rest))) [
        | true ↦ sum c.blocks (used_blocks (gone seqs rest))
        | false ↦ omega arith
      ]

  either : (a b : Bool) (m : ℕ) → (a ≡ true → b ≡ false) → cond (a || b) m 0 ≡ cond a m 0 + cond b m 0
  either true b m one = let e : cond b m 0 ≡ 0 = ap (λ (t : Bool). cond t m 0) (one refl) in omega (arith, e)
  either false b m one = omega arith

  -- of the cases of numbers that are in the one list or in the other
  both_lists : (xs ys : List ℕ) → Apart xs ys → (cases : List Case) → count (used_blocks (gone (xs ++ ys) cases)) ≡ count (used_blocks (gone xs cases)) + count (used_blocks (gone ys cases))
  both_lists xs ys apart [] = omega (arith, none)
  both_lists xs ys apart (c ∷ rest) =
      let all = one_more (xs ++ ys) c rest in
      let first = one_more xs c rest in
      let second = one_more ys c rest in
      let more = both_lists xs ys apart rest in
      let here : cond (is_among (xs ++ ys) c.seq) (count c.blocks) 0 ≡ cond (is_among xs c.seq) (count c.blocks) 0 + cond (is_among ys c.seq) (count c.blocks) 0 =
      ap (λ (t : Bool). cond t (count c.blocks) 0) (list_any-append (nat_eq c.seq) xs ys) ∙ either (is_among xs c.seq) (is_among ys c.seq) (count c.blocks) (apart c.seq) in
      omega (arith, all, first, second, more, here)

-- no case has one of no numbers
pub gone_nothing : (cases : List Case) → gone [] cases ≡ []
gone_nothing [] = refl
gone_nothing (c ∷ rest) = gone_nothing rest

-- The number at index i of some that rise, and those before it.
module _ (cases : List Case) (seqs : List ℕ) (rise : Rise 0 seqs) (i s : ℕ) (within : i < length seqs) (is : s ≡ get_or seqs i s) where
  next_is : take (i + 1) seqs ≡ take i seqs ++ s ∷ []
  next_is = take_more seqs i s within ∙ ap (λ (n : ℕ). take i seqs ++ n ∷ []) (sym is)

  all_is : seqs ≡ take (i + 1) seqs ++ drop (i + 1) seqs
  all_is = sym (take-append-drop (i + 1) seqs)

  all_rise : Rise 0 (take (i + 1) seqs ++ drop (i + 1) seqs)
  all_rise = subst (Rise 0) all_is rise

  next_apart : Apart (take i seqs) (s ∷ [])
  next_apart = rise_apart 0 (take i seqs) (s ∷ []) (subst (Rise 0) next_is (rise_front 0 (take (i + 1) seqs) (drop (i + 1) seqs) all_rise))

  rest_apart : Apart (take (i + 1) seqs) (drop (i + 1) seqs)
  rest_apart = rise_apart 0 (take (i + 1) seqs) (drop (i + 1) seqs) all_rise

  uses_more : (k : ℕ) → uses (used_blocks (gone (take (i + 1) seqs) cases)) k ≡ uses (used_blocks (gone (take i seqs) cases)) k + uses (used_blocks (gone (s ∷ []) cases)) k
  uses_more k =
      ap (λ (xs : List ℕ). uses (used_blocks (gone xs cases)) k) next_is
      ∙ both_lists (λ (bs : List ℕ). uses bs k) refl (λ x y. uses_append x y k) (take i seqs) (s ∷ []) next_apart cases

  uses_split : (k : ℕ) → uses (used_blocks (gone (take i seqs) cases)) k + uses (used_blocks (gone (s ∷ []) cases)) k ≤ uses (used_blocks (gone seqs cases)) k
  uses_split k =
      let more = uses_more k in
      let all = ap (λ (xs : List ℕ). uses (used_blocks (gone xs cases)) k) all_is in
      let both = both_lists (λ (bs : List ℕ). uses bs k) refl (λ x y. uses_append x y k) (take (i + 1) seqs) (drop (i + 1) seqs) rest_apart cases in
      omega (arith, more, all, both)

  long_more : length (used_blocks (gone (take (i + 1) seqs) cases)) ≡ length (used_blocks (gone (take i seqs) cases)) + length (used_blocks (gone (s ∷ []) cases))
  long_more =
      ap (λ (xs : List ℕ). length (used_blocks (gone xs cases))) next_is
      ∙ both_lists length refl (λ x y. length-append x y) (take i seqs) (s ∷ []) next_apart cases

  -- given back
  module _ (flags now : List Bool) (held : AreHeld flags (used_blocks (gone seqs cases))) (so_far : Balances flags (used_blocks (gone (take i seqs) cases)) now []) where
    pub next_held : AreHeld now (used_blocks (gone (s ∷ []) cases))
    next_held k =
        let h = held k in
        let p = uses_split k in
        let b = so_far.each k in
        let l = ap (λ n. one_if (nat_lt k n)) so_far.long in
        omega (arith, h, p, b, l)

    pub next_given : (new : List Bool) → Balances now (used_blocks (gone (s ∷ []) cases)) new [] → Balances flags (used_blocks (gone (take (i + 1) seqs) cases)) new []
    next_given new bal = record {
      long = bal.long ∙ so_far.long;
      each = λ k. (let a = bal.each k in let b = so_far.each k in let m = uses_more k in omega (arith, a, b, m));
      all = (let a = bal.all in let b = so_far.all in let m = long_more in omega (arith, a, b, m));
    }

  -- and marked as used again
  module _ (flags now : List Bool) (free : AreFree flags (used_blocks (gone seqs cases))) (so_far : Balances flags [] now (used_blocks (gone (take i seqs) cases))) where
    pub next_free : AreFree now (used_blocks (gone (s ∷ []) cases))
    next_free k =
        let h = free k in
        let p = uses_split k in
        let b = so_far.each k in
        omega (arith, h, p, b)

    pub next_marked : (new : List Bool) → Balances now [] new (used_blocks (gone (s ∷ []) cases)) → Balances flags [] new (used_blocks (gone (take (i + 1) seqs) cases))
    next_marked new bal = record {
      long = bal.long ∙ so_far.long;
      each = λ k. (let a = bal.each k in let b = so_far.each k in let m = uses_more k in omega (arith, a, b, m));
      all = (let a = bal.all in let b = so_far.all in let m = long_more in omega (arith, a, b, m));
    }

-- nothing is passed on
pub none_passed : (flags : List Bool) (blocks : List ℕ) → blocks ≡ [] → Balances flags blocks flags []
none_passed flags blocks is = subst (λ (bs : List ℕ). Balances flags bs flags []) (sym is) (record { long = refl; each = λ k. refl; all = refl })

pub none_taken : (flags : List Bool) (blocks : List ℕ) → blocks ≡ [] → Balances flags [] flags blocks
none_taken flags blocks is = subst (λ (bs : List ℕ). Balances flags [] flags bs) (sym is) (record { long = refl; each = λ k. refl; all = refl })

same_bit : (a b : Bool) → one_if a ≡ one_if b → a ≡ b
same_bit true true e = refl
same_bit true false e = absurd (omega (arith, e))
same_bit false true e = absurd (omega (arith, e))
same_bit false false e = refl

-- blocks that were given back and marked again
pub flags_back : (flags now new : List Bool) (blocks : List ℕ) → Balances flags blocks now [] → Balances now [] new blocks → new ≡ flags
flags_back flags now new blocks given marked =
    sym (same_flags flags new (sym (marked.long ∙ given.long))
    (λ k _. same_bit (is_free flags k) (is_free new k) (let a = given.each k in let b = marked.each k in omega (arith, a, b))))

-- blocks that were given back are free
pub given_free : (flags now : List Bool) (blocks : List ℕ) → AreHeld flags blocks → Balances flags blocks now [] → AreFree now blocks
given_free flags now blocks held given k = let b = given.each k in omega (arith, b)
