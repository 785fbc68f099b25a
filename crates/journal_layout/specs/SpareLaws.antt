-- Laws of the checks of runs: the meaning of the checks if no run is bad.
use Rattle.std.proofs.Common.{◌≡◌, inl, inr, ℕ, zero, suc, ◌+◌, ◌-◌, ◌<◌, ◌≤◌, Bool, true, false, ◌==◌, nat_eq, nat_lt, List, [], ◌∷◌, ◌++◌, refl, sym, arith, Option, Some, None, cond}
use Rattle.std.proofs.lemmas.Bool.{eqb-false, eq-eqb, ne_eqb, cases_lt, cases_eq, or_parts, or_from, le-ltb, ltb-false}
use Rattle.std.specs.List.{range_with_len, list_any}
use Rattle.extents.specs.declared.run_list.Run.{Run}
use Rattle.extents.specs.Runs.{run_blocks, blocks_of}
use Rattle.journal_layout.specs.Folding.{is_among}
use Rattle.journal_layout.specs.Soundness.{uses, AreSpare}
use Rattle.journal_layout.specs.Checks.{is_adjoining, is_overlapping, is_bad_run, first_bad_run}
use Rattle.journal_layout.specs.ChainLaws.{AreInChain}

-- how often a join and a run have a number
pub uses-append : (k : ℕ) (xs ys : List ℕ) → uses k (xs ++ ys) ≡ uses k xs + uses k ys
uses-append k [] ys = omega arith
uses-append k (x ∷ xs) ys = omega (arith, uses-append k xs ys)

uses_below : (k a n : ℕ) → k < a → uses k (range_with_len a n) ≡ 0
uses_below k a zero low = refl
uses_below k a (suc n) low = rw (ne_eqb a k (λ e. omega (arith, e))) (omega (arith, uses_below k (a + 1) n (omega arith)))

uses_above : (k a n : ℕ) → a + n ≤ k → uses k (range_with_len a n) ≡ 0
uses_above k a zero high = refl
uses_above k a (suc n) high = rw (ne_eqb a k (λ e. omega (arith, e))) (omega (arith, uses_above k (a + 1) n (omega arith)))

pub uses_within : (k a n : ℕ) → a ≤ k → k < a + n → uses k (range_with_len a n) ≡ 1
uses_within k a zero low high = absurd (omega arith)
uses_within k a (suc n) low high =
    elim (cases_eq a k) as (λ _. uses k (range_with_len a (suc n)) ≡ 1) [
      | inl same ↦ rw (eq-eqb a k same) (omega (arith, uses_below k (a + 1) n (omega (arith, same))))
      | inr other ↦ rw (ne_eqb a k other) (omega (arith, uses_within k (a + 1) n (after other) (omega arith)))
    ]
  where
    after : (a ≡ k → ⊥) → a + 1 ≤ k
    after other = omega (arith, other)

-- a number of a run lies in it
pub run_holds : (k a n : ℕ) → 0 < uses k (range_with_len a n) → (a ≤ k) × (k < a + n)
run_holds k a n some =
    elim (cases_lt k a) as (λ _. (a ≤ k) × (k < a + n)) [
      | inl low ↦ absurd (omega (arith, uses_below k a n low))
      | inr from ↦ elim (cases_lt k (a + n)) as (λ _. (a ≤ k) × (k < a + n)) [
        | inl high ↦ (from, high)
        | inr above ↦ absurd (omega (arith, uses_above k a n above))
      ]
    ]

-- the test whether a number is among others
pub among_not : (xs : List ℕ) (k : ℕ) → is_among xs k ≡ false → uses k xs ≡ 0
among_not [] k e = refl
among_not (x ∷ xs) k e =
    let h = or_parts (nat_eq k x) (list_any (nat_eq k) xs) e in
    let other : k ≡ x → ⊥ = eqb-false k x h.0 in
    rw (ne_eqb x k (λ s. other (sym s))) (omega (arith, among_not xs k h.1))

pub not_among : (xs : List ℕ) (k : ℕ) → uses k xs ≡ 0 → is_among xs k ≡ false
not_among [] k e = refl
not_among (x ∷ xs) k e =
    elim (cases_eq x k) as (λ _. is_among (x ∷ xs) k ≡ false) [
      | inl same ↦ absurd (clash (rw (eq-eqb x k same) at e))
      | inr other ↦ or_from (nat_eq k x) (list_any (nat_eq k) xs) (ne_eqb k x (λ s. other (sym s))) (not_among xs k (rest (rw (ne_eqb x k other) at e)))
    ]
  where
    clash : 1 + uses k xs ≡ 0 → ⊥
    clash h = omega arith

    rest : 0 + uses k xs ≡ 0 → uses k xs ≡ 0
    rest h = omega arith

-- no number of a list is among others
pub apart_passed : (used xs : List ℕ) → list_any (is_among used) xs ≡ false → (k : ℕ) → 0 < uses k xs → uses k used ≡ 0
apart_passed used [] e k some = absurd (omega arith)
apart_passed used (x ∷ xs) e k some =
    let h = or_parts (is_among used x) (list_any (is_among used) xs) e in
    elim (cases_eq x k) as (λ _. uses k used ≡ 0) [
      | inl same ↦ rw (← same) (among_not used x h.0)
      | inr other ↦ apart_passed used xs h.1 k (rest (rw (ne_eqb x k other) at some))
    ]
  where
    rest : 0 < 0 + uses k xs → 0 < uses k xs
    rest h = omega arith

pub apart_passes : (used xs : List ℕ) → ((k : ℕ) → 0 < uses k xs → uses k used ≡ 0) → list_any (is_among used) xs ≡ false
apart_passes used [] each = refl
apart_passes used (x ∷ xs) each =
    or_from (is_among used x) (list_any (is_among used) xs)
    (not_among used x (each x (rw (eq-eqb x x refl) (omega arith))))
    (apart_passes used xs (λ k some. each k (more k some)))
  where
    more : (k : ℕ) → 0 < uses k xs → 0 < uses k (x ∷ xs)
    more k some = omega arith

-- spare blocks of runs lie below the limit
pub run_within : (limit : ℕ) (used : List ℕ) (r : Run) (rest : List Run) → 1 ≤ r.count → AreSpare limit used (blocks_of (r ∷ rest)) → r.start + r.count ≤ limit
run_within limit used r rest some spare =
    let k = r.start + r.count - 1 in
    let one = uses_within k r.start r.count (omega arith) (omega arith) in
    let below : k < limit = (spare k (omega (arith, uses-append k (run_blocks r) (blocks_of rest)))).0 in
    omega arith

-- spare blocks stay spare after the first run
pub spare_rest : (limit : ℕ) (used : List ℕ) (r : Run) (rest : List Run) → AreSpare limit used (blocks_of (r ∷ rest)) → AreSpare limit (used ++ run_blocks r) (blocks_of rest)
spare_rest limit used r rest spare k some =
    let whole = uses-append k (run_blocks r) (blocks_of rest) in
    let h = spare k (omega arith) in
    let once : uses k (blocks_of (r ∷ rest)) ≡ 1 = h.1 in
    let unused : uses k used ≡ 0 = h.2 in
    (h.0, omega arith, omega (arith, uses-append k used (run_blocks r)))

pub runs_pass : (limit : ℕ) (used : List ℕ) (end : Option ℕ) (place : ℕ) (rs : List Run) → AreInChain end rs → AreSpare limit used (blocks_of rs) → first_bad_run limit used end place rs ≡ None
runs_pass limit used end place [] chain spare = refl
runs_pass limit used end place (r ∷ rest) chain spare =
    let within = run_within limit used r rest chain.0 spare in
    let apart : is_overlapping used r ≡ false =
    apart_passes used (run_blocks r) (λ k some. (spare k (omega (arith, uses-append k (run_blocks r) (blocks_of rest)))).2) in
    let fine : is_bad_run limit used end r ≡ false =
    or_from _ _ (or_from _ _ (or_from _ _ (ne_eqb r.count 0 (λ e. absurd (omega (arith, e, chain.0)))) (le-ltb limit (r.start + r.count) within)) chain.1) apart in
    rw fine (runs_pass limit (used ++ run_blocks r) (Some (r.start + r.count)) (place + 8) rest chain.2 (spare_rest limit used r rest spare))

-- blocks of a run and spare ones after it
spare_more : (limit : ℕ) (used : List ℕ) (r : Run) (rest : List Run) → r.start + r.count ≤ limit → is_overlapping used r ≡ false
    → AreSpare limit (used ++ run_blocks r) (blocks_of rest) → AreSpare limit used (blocks_of (r ∷ rest))
spare_more limit used r rest within apart spare k some =
    let whole = uses-append k (run_blocks r) (blocks_of rest) in
    let both = uses-append k used (run_blocks r) in
    elim (cases_lt 0 (uses k (blocks_of rest))) as (λ _. (k < limit) × (uses k (blocks_of (r ∷ rest)) ≡ 1) × (uses k used ≡ 0)) [
      | inl behind ↦
          let h = spare k behind in
          let once : uses k (blocks_of rest) ≡ 1 = h.1 in
          let unused : uses k (used ++ run_blocks r) ≡ 0 = h.2 in
          (h.0, omega arith, omega arith)
      | inr none ↦
          let here : 0 < uses k (run_blocks r) = omega arith in
          let lies = run_holds k r.start r.count here in
          let once = uses_within k r.start r.count lies.0 lies.1 in
          (omega (arith, lies.1), omega arith, apart_passed used (run_blocks r) apart k here)
    ]

pub runs_passed : (limit : ℕ) (used : List ℕ) (end : Option ℕ) (place : ℕ) (rs : List Run) → first_bad_run limit used end place rs ≡ None → AreInChain end rs × AreSpare limit used (blocks_of rs)
runs_passed limit used end place [] e = (tt, λ k some. absurd (omega arith))
runs_passed limit used end place (r ∷ rest) e =
    let h = first (is_bad_run limit used end r) e in
    let a = or_parts _ (is_overlapping used r) h.0 in
    let b = or_parts _ (is_adjoining end r) a.0 in
    let c = or_parts (r.count == 0) (nat_lt limit (r.start + r.count)) b.0 in
    let behind = runs_passed limit (used ++ run_blocks r) (Some (r.start + r.count)) (place + 8) rest h.1 in
    ((some r.count (eqb-false r.count 0 c.0), b.1, behind.0), spare_more limit used r rest (ltb-false limit (r.start + r.count) c.1) a.1 behind.1)
  where
    first : (t : Bool) → cond t (Some place) (first_bad_run limit (used ++ run_blocks r) (Some (r.start + r.count)) (place + 8) rest) ≡ None
        → (t ≡ false) × (first_bad_run limit (used ++ run_blocks r) (Some (r.start + r.count)) (place + 8) rest ≡ None)
    first true g = cc
    first false g = (refl, g)

    some : (n : ℕ) → (n ≡ 0 → ⊥) → 1 ≤ n
    some n h = omega (arith, h)
