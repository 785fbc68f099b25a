-- Steps through the addresses that are still to come.
use Rattle.std.proofs.Common.{◌≡◌, ◌<◌, ◌≤◌, ℕ, zero, suc, ◌+◌, ◌-◌, ◌^◌, ◌&&◌, eqb, Bool, true, false, List, [], ◌∷◌, length, drop, get_or, Option, None, Some, refl, sym, ap, subst, ◌∙◌, arith, inl, inr}
use Rattle.std.specs.Option.{option_map}
use Rattle.std.specs.Prelude.{slice_get}
use Rattle.std.specs.List.{filter, range_with_len, AllByRecursion}
use Rattle.std.proofs.lemmas.List.{length-drop, get_or-drop}
use Rattle.elf_view.specs.Sound.{IsLoadable}
use Rattle.std.proofs.lemmas.Bool.{and_left, and_right, cond-true, cond-false, eqb-true, eq-eqb, cases_lt, cases_Bool, false≢true}
use Rattle.std.proofs.lemmas.Option.{same_Some, none-some}
use Rattle.elf_view.specs.Header.{SegmentView}
use Rattle.address_space.specs.Source.{Space, span, decider, value_at}
use Rattle.address_space.specs.Occurrence.{is_number, is_decided_by, decided_from}
use Rattle.address_space.specs.CursorWords.{IsRun, WantsValue, value_in}

filter_skip : (p : ℕ → Bool) (m a n : ℕ) → ((k : ℕ) → k < m → p (a + k) ≡ false) → filter p (range_with_len a (m + n)) ≡ filter p (range_with_len (a + m) n)
filter_skip p zero a n none =
    let e : zero + n ≡ n = omega arith in
    let f : a ≡ a + zero = omega arith in
    ap (λ q. filter p (range_with_len a q)) e ∙ ap (λ b. filter p (range_with_len b n)) f
filter_skip p (suc m) a n none =
    let e : suc m + n ≡ suc (m + n) = omega arith in
    let zeros : a + 0 ≡ a = omega arith in
    let next : a + 1 + m ≡ a + suc m = omega arith in
    ap (λ q. filter p (range_with_len a q)) e
    ∙ cond-false (p a) _ _ (subst (λ b. p b ≡ false) zeros (none 0 (omega arith)))
    ∙ filter_skip p m (a + 1) n (λ k h. let at : a + suc k ≡ a + 1 + k = omega arith in subst (λ b. p b ≡ false) at (none (suc k) (omega arith)))
    ∙ ap (λ b. filter p (range_with_len b n)) next

pub filter_empty : (p : ℕ → Bool) (a n : ℕ) → n ≡ 0 → filter p (range_with_len a n) ≡ []
filter_empty p a n h = ap (λ q. filter p (range_with_len a q)) h

-- where nothing is left the address does not matter
filter_onward : (p : ℕ → Bool) (a b n : ℕ) → (0 < n → a ≡ b) → filter p (range_with_len a n) ≡ filter p (range_with_len b n)
filter_onward p a b n h = elim (cases_lt 0 n) as (λ _. filter p (range_with_len a n) ≡ filter p (range_with_len b n)) [
  | inl some ↦ ap (λ q. filter p (range_with_len q n)) (h some)
  | inr none ↦ let z : n ≡ 0 = omega arith in filter_empty p a n z ∙ sym (filter_empty p b n z)
]

-- m addresses that are passed over
pub passed_over : (space : Space) (test : ℕ → Bool) (i a left m b : ℕ) → m ≤ left → ((k : ℕ) → k < m → (is_decided_by space i (a + k) && test (a + k)) ≡ false) → (0 < left - m → b ≡ a + m) → decided_from space test i a left ≡ decided_from space test i b (left - m)
passed_over space test i a left m b le none at =
    let p = λ (q : ℕ). is_decided_by space i q && test q in
    let e : left ≡ m + (left - m) = omega arith in
    ap (λ n. filter p (range_with_len a n)) e ∙ filter_skip p m a (left - m) none ∙ filter_onward p (a + m) b (left - m) (λ h. sym (at h))

-- m addresses that are passed over, and the one after them that is found
pub found_behind : (space : Space) (test : ℕ → Bool) (i a left m b : ℕ) → m + 1 ≤ left → ((k : ℕ) → k < m → (is_decided_by space i (a + k) && test (a + k)) ≡ false) → (is_decided_by space i (a + m) && test (a + m)) ≡ true → (0 < left - (m + 1) → b ≡ a + (m + 1)) → decided_from space test i a left ≡ (a + m) ∷ decided_from space test i b (left - (m + 1))
found_behind space test i a left m b le none one at =
    let p = λ (q : ℕ). is_decided_by space i q && test q in
    let e : left ≡ m + suc (left - (m + 1)) = omega arith in
    let next : a + m + 1 ≡ a + (m + 1) = omega arith in
    ap (λ n. filter p (range_with_len a n)) e
    ∙ filter_skip p m a (suc (left - (m + 1))) none
    ∙ cond-true (p (a + m)) _ _ one
    ∙ ap (λ q. (a + m) ∷ filter p (range_with_len q (left - (m + 1)))) next
    ∙ ap (λ xs. (a + m) ∷ xs) (filter_onward p (a + (m + 1)) b (left - (m + 1)) (λ h. sym (at h)))

pub decided_number : (i : ℕ) (o : Option (ℕ × SegmentView)) → option_map (λ (d : ℕ × SegmentView). d.0) o ≡ Some i → is_number i o ≡ true
decided_number i None h = absurd (none-some i h)
decided_number i (Some d) h = eq-eqb d.0 i (same_Some d.0 i h)

pub number_decided : (i : ℕ) (o : Option (ℕ × SegmentView)) → is_number i o ≡ true → option_map (λ (d : ℕ × SegmentView). d.0) o ≡ Some i
number_decided i None h = absurd (false≢true h)
number_decided i (Some d) h = ap Some (eqb-true d.0 i h)

-- addresses of a run that another segment decides, or that have no value
pub run_passes : (space : Space) (test : ℕ → Bool) (i a limit n : ℕ) (number : Option ℕ) (bytes : Option (List ℕ)) → WantsValue space test → IsRun space a limit n number bytes → (number ≡ Some i → bytes ≡ None) → (k : ℕ) → k < n → (is_decided_by space i (a + k) && test (a + k)) ≡ false
run_passes space test i a limit n number bytes wants r none k h =
    elim (cases_Bool (is_decided_by space i (a + k))) as (λ _. (is_decided_by space i (a + k) && test (a + k)) ≡ false) [
      | inl by ↦
          let is = none (sym (r.decided k h) ∙ number_decided i (decider space (a + k)) by) in
          and_right (is_decided_by space i (a + k)) (test (a + k)) (wants (a + k) (r.values k h ∙ ap (λ o. value_in o k) is))
      | inr other ↦ and_left (is_decided_by space i (a + k)) (test (a + k)) other
    ]

pub run_decided : (space : Space) (i a limit n : ℕ) (number : Option ℕ) (bytes : Option (List ℕ)) → IsRun space a limit n number bytes → number ≡ Some i → (k : ℕ) → k < n → is_decided_by space i (a + k) ≡ true
run_decided space i a limit n number bytes r is k h = decided_number i (decider space (a + k)) (r.decided k h ∙ is)

-- the items from a number on, where there is one of that number, and where there is none
pub drop_some : {A : Type 0} (n : ℕ) (xs : List A) (x : A) → slice_get xs n ≡ Some x → drop n xs ≡ x ∷ drop (n + 1) xs
drop_some n [] x h = absurd (none-some x h)
drop_some zero (y ∷ xs) x h = ap (λ z. z ∷ xs) (same_Some y x h)
drop_some (suc n) (y ∷ xs) x h = let e : suc n + 1 ≡ suc (n + 1) = omega arith in drop_some n xs x h ∙ ap (λ q. x ∷ drop q (y ∷ xs)) (sym e)

pub drop_none : {A : Type 0} (n : ℕ) (xs : List A) → slice_get xs n ≡ None → drop n xs ≡ []
drop_none zero [] h = refl
drop_none (suc n) [] h = refl
drop_none zero (y ∷ xs) h = absurd (none-some y (sym h))
drop_none (suc n) (y ∷ xs) h = drop_none n xs h

all_at : {A : Type 0} (P : A → Type 0) (i : ℕ) (xs : List A) (x : A) → AllByRecursion P xs → slice_get xs i ≡ Some x → P x
all_at P i [] x all h = absurd (none-some x h)
all_at P zero (y ∷ xs) x all h = subst P (same_Some y x h) all.0
all_at P (suc i) (y ∷ xs) x all h = all_at P i xs x all.1 h

-- a segment ends within the address space
pub span_fits : (xs : List SegmentView) (i : ℕ) (s : SegmentView) → AllByRecursion (λ (t : SegmentView). t.kind ≡ 1 → IsLoadable t) xs → slice_get xs i ≡ Some s → s.vaddr < 2 ^ 64 → s.vaddr + span s ≤ 2 ^ 64
span_fits xs i s all h small =
    elim (cases_Bool (eqb s.kind 1)) as (λ _. s.vaddr + span s ≤ 2 ^ 64) [
      | inl load ↦
          let ends = (all_at (λ (t : SegmentView). t.kind ≡ 1 → IsLoadable t) i xs s all h (eqb-true s.kind 1 load)).ends in
          let is : span s ≡ s.memsz = cond-true (eqb s.kind 1) s.memsz 0 load in
          omega (arith, is, ends)
      | inr other ↦
          let is : span s ≡ 0 = cond-false (eqb s.kind 1) s.memsz 0 other in
          omega (arith, is)
    ]

-- after some of the values at hand
pub placed_behind : (space : Space) (i a n b : ℕ) (here rest : List ℕ) → rest ≡ drop n here → (0 < length here - n → b ≡ a + n) → ((k : ℕ) → k < length here → value_at space (a + k) ≡ Some (get_or here k 0)) → ((k : ℕ) → k < length here → is_decided_by space i (a + k) ≡ true)
    → ((k : ℕ) → k < length rest → value_at space (b + k) ≡ Some (get_or rest k 0)) × ((k : ℕ) → k < length rest → is_decided_by space i (b + k) ≡ true)
placed_behind space i a n b here rest is at values decided =
    let size = ap length is ∙ length-drop n here in (
      λ k h.
          let place : a + (n + k) ≡ b + k = omega (arith, at (omega arith)) in
          ap (value_at space) (sym place) ∙ values (n + k) (omega arith) ∙ ap Some (sym (get_or-drop n here k 0)) ∙ ap (λ xs. Some (get_or xs k 0)) (sym is),
      λ k h.
          let place : a + (n + k) ≡ b + k = omega (arith, at (omega arith)) in
          ap (is_decided_by space i) (sym place) ∙ decided (n + k) (omega arith),
    )
