-- Where bytes occur among values that are at hand.
use Rattle.std.proofs.Common.{◌≡◌, ◌<◌, ◌≤◌, ℕ, zero, suc, ◌+◌, ◌-◌, ◌^◌, ◌&&◌, eqb, leb, ltb, Bool, true, false, List, [], ◌∷◌, ◌++◌, length, take, drop, get_or, Option, None, Some, refl, sym, ap, subst, ◌∙◌, arith, inl, inr}
use Rattle.std.specs.List.{AllByRecursion}
use Rattle.std.proofs.lemmas.Bool.{and_parts, and_from, and_left, and_right, eqb-true, eq-eqb, false≢true, cases_Bool, leb-true, ltb-true, cond-true, cond-false}
use Rattle.std.proofs.lemmas.Option.{same_Some, none-some}
use Rattle.elf_view.specs.Header.{SegmentView}
use Rattle.elf_view.specs.Sound.{IsLoadable}
use Rattle.memchr.specs.Find.{OccursAt}
use Rattle.address_space.specs.Source.{Space, first_from, span, is_covering, decider, value_at, value_of, content_by}
use Rattle.address_space.specs.Occurrence.{is_value, occurs, is_decided_by, decided_from, ordered_from}
use Rattle.address_space.specs.CursorWords.{IsPlaced, WantsValue, to_come}
use Rattle.address_space.specs.FindWords.{left_from}
use Rattle.std.specs.Option.{MatchOption}
use Rattle.std.specs.List.{starts_with}
use lib.Pointwise.{pointwise}
use Rattle.address_space.specs.declared.cursor.Cursor.{Cursor}
use Rattle.address_space.proofs.Ordering.{passed_over, found_behind}
use Rattle.std.proofs.lemmas.List.{drop_more, drop_all, ext_get_or, get_or-take, length-take-le}
use Rattle.address_space.proofs.Values.{found_passes}
use Rattle.address_space.proofs.Places.{place_from}

value_is : (x : ℕ) (o : Option ℕ) → is_value x o ≡ true → o ≡ Some x
value_is x None h = absurd (false≢true h)
value_is x (Some y) h = ap Some (eqb-true y x h)

is_that_value : (x : ℕ) (o : Option ℕ) → o ≡ Some x → is_value x o ≡ true
is_that_value x None h = absurd (none-some x h)
is_that_value x (Some y) h = eq-eqb y x (same_Some y x h)

-- what occurs is read address by address, and the other way round
pub occurs_reads : (space : Space) (xs : List ℕ) (a : ℕ) → occurs space xs a ≡ true → (j : ℕ) → j < length xs → value_at space (a + j) ≡ Some (get_or xs j 0)
unfolding occurs
occurs_reads space [] a h j l = absurd (omega arith)
occurs_reads space (x ∷ xs) a h zero l =
    let parts = and_parts (is_value x (value_at space a)) (occurs space xs (a + 1)) h in
    let e : a + 0 ≡ a = omega arith in
    ap (value_at space) e ∙ value_is x (value_at space a) parts.0
occurs_reads space (x ∷ xs) a h (suc j) l =
    let parts = and_parts (is_value x (value_at space a)) (occurs space xs (a + 1)) h in
    let e : a + suc j ≡ a + 1 + j = omega arith in
    ap (value_at space) e ∙ occurs_reads space xs (a + 1) parts.1 j (omega arith)

pub reads_occur : (space : Space) (xs : List ℕ) (a : ℕ) → ((j : ℕ) → j < length xs → value_at space (a + j) ≡ Some (get_or xs j 0)) → occurs space xs a ≡ true
unfolding occurs
reads_occur space [] a h = refl
reads_occur space (x ∷ xs) a h =
    let e : a + 0 ≡ a = omega arith in
    and_from (is_value x (value_at space a)) (occurs space xs (a + 1)) (is_that_value x (value_at space a) (ap (value_at space) (sym e) ∙ h 0 (omega arith)))
    (reads_occur space xs (a + 1) (λ j l. let f : a + suc j ≡ a + 1 + j = omega arith in ap (value_at space) (sym f) ∙ h (suc j) (omega arith)))

-- the values at hand
module _ (space : Space) (needle here : List ℕ) (a : ℕ) (values : (k : ℕ) → k < length here → value_at space (a + k) ≡ Some (get_or here k 0)) where
  pub stands : (k : ℕ) → OccursAt here needle k → occurs space needle (a + k) ≡ true
  stands k o =
      let fits = o.fits in
      reads_occur space needle (a + k) (λ j l. let e : a + k + j ≡ a + (k + j) = omega arith in ap (value_at space) e ∙ values (k + j) (omega arith) ∙ ap Some (o.reads j l))

  pub stands_not : (k : ℕ) → k + length needle ≤ length here → (OccursAt here needle k → ⊥) → occurs space needle (a + k) ≡ false
  stands_not k fits none = elim (cases_Bool (occurs space needle (a + k))) as (λ _. occurs space needle (a + k) ≡ false) [
    | inl holds ↦ absurd (none (record {
      fits = fits;
      reads = λ j l.
          let e : a + k + j ≡ a + (k + j) = omega arith in
          same_Some _ _ (sym (values (k + j) (omega arith)) ∙ sym (ap (value_at space) e) ∙ occurs_reads space needle (a + k) holds j l);
    }))
    | inr fails ↦ fails
  ]

-- no address past the end of the address space has a value
found_all : {A : Type 0} (P : A → Type 0) (test : A → Bool) (i : ℕ) (xs : List A) (d : ℕ × A) → AllByRecursion P xs → first_from test i xs ≡ Some d → P d.1
found_all P test i [] d all h = absurd (none-some d h)
found_all {A = A} P test i (x ∷ xs) d all h = elim (cases_Bool (test x)) as (λ _. P d.1) [
  | inl passes ↦ subst (λ (e : ℕ × A). P e.1) (same_Some (i, x) d (sym (cond-true (test x) _ _ passes) ∙ h)) all.0
  | inr fails ↦ found_all P test (i + 1) xs d all.1 (sym (cond-false (test x) _ _ fails) ∙ h)
]

abbrev Fits : SegmentView → Type 0
Fits s = s.kind ≡ 1 → IsLoadable s

covered_below : (s : SegmentView) (a : ℕ) → Fits s → is_covering a s ≡ true → a < 2 ^ 64
covered_below s a fits h =
    let parts = and_parts (leb s.vaddr a) (ltb a (s.vaddr + span s)) h in
    let low = leb-true s.vaddr a parts.0 in
    let high = ltb-true a (s.vaddr + span s) parts.1 in
    elim (cases_Bool (eqb s.kind 1)) as (λ _. a < 2 ^ 64) [
      | inl load ↦
          let ends = (fits (eqb-true s.kind 1 load)).ends in
          let is : span s ≡ s.memsz = cond-true (eqb s.kind 1) s.memsz 0 load in
          omega (arith, is, ends, high)
      | inr other ↦
          let is : span s ≡ 0 = cond-false (eqb s.kind 1) s.memsz 0 other in
          absurd (omega (arith, is, high, low))
    ]

undecided : (space : Space) (a : ℕ) (o : Option (ℕ × SegmentView)) → AllByRecursion Fits space.segments → 2 ^ 64 ≤ a → decider space a ≡ o → o ≡ None
unfolding decider
undecided space a None all high h = refl
undecided space a (Some d) all high h =
    let below = covered_below d.1 a (found_all Fits (is_covering a) 0 space.segments d all h) (found_passes (is_covering a) 0 space.segments d h) in
    absurd (omega arith)

pub nothing_past : (space : Space) (a : ℕ) → AllByRecursion Fits space.segments → 2 ^ 64 ≤ a → value_at space a ≡ None
nothing_past space a all high =
    ap (λ p. value_of (content_by (λ b j. get_or b j 0) a p)) (place_from space a None (undecided space a (decider space a) all high refl))

-- bytes one by one
pub occurs_step : (space : Space) (xs : List ℕ) (a i x : ℕ) → i < length xs → x ≡ get_or xs i 0 → occurs space (drop i xs) (a + i) ≡ (is_value x (value_at space (a + i)) && occurs space (drop (i + 1) xs) (a + (i + 1)))
unfolding occurs
occurs_step space xs a i x h is =
    let next : a + i + 1 ≡ a + (i + 1) = omega arith in
    ap (λ ys. occurs space ys (a + i)) (drop_more xs i 0 h)
    ∙ ap (λ y. is_value y (value_at space (a + i)) && occurs space (drop (i + 1) xs) (a + i + 1)) (sym is)
    ∙ ap (λ b. is_value x (value_at space (a + i)) && occurs space (drop (i + 1) xs) b) next

pub occurs_fails : (space : Space) (xs : List ℕ) (a i x : ℕ) → i < length xs → x ≡ get_or xs i 0 → is_value x (value_at space (a + i)) ≡ false → occurs space (drop i xs) (a + i) ≡ false
occurs_fails space xs a i x h is no_value = occurs_step space xs a i x h is ∙ and_left _ _ no_value

pub occurs_goes_on : (space : Space) (xs : List ℕ) (a i x : ℕ) → i < length xs → x ≡ get_or xs i 0 → is_value x (value_at space (a + i)) ≡ true → occurs space (drop i xs) (a + i) ≡ occurs space (drop (i + 1) xs) (a + (i + 1))
occurs_goes_on space xs a i x h is value = occurs_step space xs a i x h is ∙ ap (λ t. t && occurs space (drop (i + 1) xs) (a + (i + 1))) value

pub occurs_all : (space : Space) (xs : List ℕ) (b i : ℕ) → length xs ≤ i → occurs space (drop i xs) b ≡ true
unfolding occurs
occurs_all space xs b i h = ap (λ ys. occurs space ys b) (drop_all i xs h)

-- what is still to come after some of the values at hand
module _ (space : Space) (test : ℕ → Bool) (c d : Cursor) (p : IsPlaced space c) (number : d.number ≡ c.number) where
  abbrev of_rest : ℕ → ℕ → List ℕ
  of_rest i n = decided_from space test i d.at n ++ ordered_from space test (i + 1) (drop (i + 1) space.segments)

  pub come_passed : (n : ℕ) → n ≤ length c.here.now → d.left ≡ c.left - n → (0 < d.left → d.at ≡ c.at + n) → ((k : ℕ) → k < n → test (c.at + k) ≡ false) → to_come space test c ≡ to_come space test d
  come_passed n within left at none =
      let bound = c.within in
      ap (λ xs. xs ++ ordered_from space test (c.number + 1) (drop (c.number + 1) space.segments))
      (passed_over space test c.number c.at c.left n d.at (omega arith) (λ k h. and_right (is_decided_by space c.number (c.at + k)) (test (c.at + k)) (none k h)) (λ h. at (omega arith)))
      ∙ ap (of_rest c.number) (sym left)
      ∙ ap (λ i. of_rest i d.left) (sym number)

  pub come_found : (m : ℕ) → m + 1 ≤ length c.here.now → d.left ≡ c.left - (m + 1) → (0 < d.left → d.at ≡ c.at + (m + 1)) → ((k : ℕ) → k < m → test (c.at + k) ≡ false) → test (c.at + m) ≡ true → to_come space test c ≡ (c.at + m) ∷ to_come space test d
  come_found m within left at none holds =
      let bound = c.within in
      ap (λ xs. xs ++ ordered_from space test (c.number + 1) (drop (c.number + 1) space.segments))
      (found_behind space test c.number c.at c.left m d.at (omega arith) (λ k h. and_right (is_decided_by space c.number (c.at + k)) (test (c.at + k)) (none k h)) (and_from _ _ (p.decided m (omega arith)) holds) (λ h. at (omega arith)))
      ∙ ap (λ n. (c.at + m) ∷ of_rest c.number n) (sym left)
      ∙ ap (λ i. (c.at + m) ∷ of_rest i d.left) (sym number)

  pub come_found_first : 0 < length c.here.now → d.left ≡ c.left - 1 → (0 < d.left → d.at ≡ c.at + 1) → test c.at ≡ true → to_come space test c ≡ c.at ∷ to_come space test d
  come_found_first some left at holds =
      let zeros : c.at + 0 ≡ c.at = omega arith in
      subst (λ b. to_come space test c ≡ b ∷ to_come space test d) zeros (come_found 0 (omega arith) left at (λ k h. absurd (omega arith)) (subst (λ b. test b ≡ true) (sym zeros) holds))

  pub come_passed_first : 0 < length c.here.now → d.left ≡ c.left - 1 → (0 < d.left → d.at ≡ c.at + 1) → test c.at ≡ false → to_come space test c ≡ to_come space test d
  come_passed_first some left at fails =
      come_passed 1 (omega arith) left at (λ k h. let zeros : c.at ≡ c.at + k = omega arith in subst (λ b. test b ≡ false) zeros fails)

-- bytes, if there are any, are looked for among values
pub occurs_wants : (space : Space) (xs : List ℕ) → 0 < length xs → WantsValue space (occurs space xs)
unfolding occurs
occurs_wants space [] some a none = absurd (omega arith)
occurs_wants space (x ∷ xs) some a none = and_left (is_value x (value_at space a)) (occurs space xs (a + 1)) (ap (is_value x) none)

-- the front of a search
pub left_at_front : (space : Space) (test : ℕ → Bool) (o : Option Cursor) (xs : List ℕ) → MatchOption o (xs ≡ []) (λ c. xs ≡ to_come space test c) → left_from space test o ≡ xs
left_at_front space test None xs h = sym h
left_at_front space test (Some c) xs h = sym h

pointwise_itself : (xs : List ℕ) → pointwise eqb xs xs ≡ true
pointwise_itself [] = refl
pointwise_itself (x ∷ xs) = and_from (eqb x x) (pointwise eqb xs xs) (eq-eqb x x refl) (pointwise_itself xs)

-- bytes that do not begin with the values at hand do not occur there
pub begins_otherwise : (space : Space) (needle here : List ℕ) (a : ℕ) → length here ≤ length needle → ((k : ℕ) → k < length here → value_at space (a + k) ≡ Some (get_or here k 0)) → starts_with eqb needle here ≡ false → occurs space needle a ≡ false
begins_otherwise space needle here a room values other = elim (cases_Bool (occurs space needle a)) as (λ _. occurs space needle a ≡ false) [
  | inl holds ↦
      let size : length here ≡ length (take (length here) needle) = sym (length-take-le (length here) needle room) in
      let same : here ≡ take (length here) needle = ext_get_or 0 here (take (length here) needle) size (λ k h.
      same_Some _ _ (sym (values k h) ∙ occurs_reads space needle a holds k (omega arith)) ∙ sym (get_or-take (length here) needle k 0 h)) in
      absurd (false≢true (sym other ∙ ap (pointwise eqb here) (sym same) ∙ pointwise_itself here))
  | inr fails ↦ fails
]
