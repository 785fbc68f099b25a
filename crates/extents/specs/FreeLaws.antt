-- Laws of sets of free blocks.
use Rattle.std.proofs.Common.{◌≡◌, ◌≢◌, ◌⊎◌, inl, inr, ⊎_elim, ℕ, ◌+◌, ◌<◌, ◌≤◌, Bool, true, false, not, ◌&&◌, ◌||◌, cond, List, [], ◌∷◌, ◌++◌, length, set, replicate, refl, sym, ap, ◌∙◌, arith, zero, suc}
use Rattle.std.specs.List.{range_with_len}
use Rattle.std.proofs.lemmas.List.{ext_get_or, get_or_past, get_or-set_same, get_or-set_other, length-set, get_or-replicate, map-id}
use Rattle.std.proofs.lemmas.List.FromFn.{length-map-range_with_len, get_or-map-range_with_len, map-range_with_len_more, length-range_with_len}
use Rattle.std.proofs.lemmas.List.Sums.{sum_by-cons, sum_by-append, sum_by-set, get_or-le-sum_by, count_by-le-length}
use Rattle.std.proofs.lemmas.List.Folds.{sum_by-replicate}
use Rattle.std.proofs.lemmas.List.Elements.{All-nil, All-cons}
use Rattle.std.proofs.lemmas.Bool.{cases_lt, cases_eq, le-leb, lt-leb, lt-ltb, le-ltb, eq-eqb, ne_eqb}
use Rattle.std.proofs.Math.Dec.{leb, ltb, eqb}
use Rattle.extents.specs.declared.run_list.Run.{Run}
use Rattle.extents.specs.declared.free_map.UseFault.{UseFault}
use Rattle.extents.specs.declared.free_map.UseFault.TheVariants.{OutOfRange, InUse}
use Rattle.std.proofs.Common.{subst, Result, Ok, Err}
use Rattle.extents.specs.Runs.{run_blocks, blocks_of, runs_of}
use Rattle.extents.specs.RunLaws.{blocks_of_runs, runs_have_blocks}
use Rattle.extents.specs.FreeSet.{is_free, free_count, uses, one_if, is_within, flags_by, without, with_blocks, with_runs, AllFree, AllUsed, NoneFree, AreUsed, Marks, Takes}

-- Lists of flags by a test.

pub length_flags_by : (n : ℕ) (test : ℕ → Bool) → length (flags_by n test) ≡ n
unfolding flags_by
length_flags_by n test = length-map-range_with_len test 0 n

-- one of the n blocks is free if and only if it passes the test
pub flag_below : (n : ℕ) (test : ℕ → Bool) (k : ℕ) → k < n → is_free (flags_by n test) k ≡ test k
unfolding flags_by
flag_below n test k below = get_or-map-range_with_len test 0 n k k false below (omega arith)

pub flag_past : (flags : List Bool) (k : ℕ) → length flags ≤ k → is_free flags k ≡ false
flag_past flags k past = get_or_past flags k false past

-- a free block is one of the blocks
pub free_below : (flags : List Bool) (k : ℕ) → is_free flags k ≡ true → k < length flags
free_below flags k free =
    elim (cases_lt k (length flags)) as (λ _. k < length flags) [
      | inl below ↦ below
      | inr past ↦ (let e = flag_past flags k past in absurd (let f : true ≡ false = sym free ∙ e in cc))
    ]

-- as many blocks with the same blocks free are the same
pub same_flags : (old new : List Bool) → length old ≡ length new → ((k : ℕ) → k < length old → is_free old k ≡ is_free new k) → old ≡ new
same_flags old new same each = ext_get_or false old new same each

-- all blocks free
pub all_free : (n k : ℕ) → k < n → is_free (replicate n true) k ≡ true
all_free n k below = get_or-replicate n k true false below

-- Blocks of a run.

pub within_run : (run : Run) (k : ℕ) → run.start ≤ k → k < run.start + run.count → is_within run k ≡ true
within_run run k from below = rw (le-leb run.start k from, lt-ltb k (run.start + run.count) below) refl

pub below_run : (run : Run) (k : ℕ) → k < run.start → is_within run k ≡ false
below_run run k below = rw (lt-leb run.start k below) refl

pub past_run : (run : Run) (k : ℕ) → run.start + run.count ≤ k → is_within run k ≡ false
past_run run k past = rw (le-ltb k (run.start + run.count) past) (elim (leb run.start k) as (λ t. (t && false) ≡ false) [ true ↦ refl | false ↦ refl ])

-- Without a run.

pub length_without : (flags : List Bool) (run : Run) → length (without flags run) ≡ length flags
unfolding without
length_without flags run = length_flags_by (length flags) (λ k. is_free flags k && not (is_within run k))

-- a block is free then if and only if it was free and is not one of the run's
pub free_without : (flags : List Bool) (run : Run) (k : ℕ) → is_free (without flags run) k ≡ (is_free flags k && not (is_within run k))
unfolding without
free_without flags run k =
    let test : ℕ → Bool = λ j. is_free flags j && not (is_within run j) in
    elim (cases_lt k (length flags)) as (λ _. is_free (flags_by (length flags) test) k ≡ test k) [
      | inl below ↦ flag_below (length flags) test k below
      | inr past ↦ (let e : is_free flags k ≡ false = flag_past flags k past in
          flag_past (flags_by (length flags) test) k (rw (length_flags_by (length flags) test) past) ∙ rw e refl)
    ]

pub free_without_inside : (flags : List Bool) (run : Run) (k : ℕ) → run.start ≤ k → k < run.start + run.count → is_free (without flags run) k ≡ false
free_without_inside flags run k from below =
    free_without flags run k ∙ rw (within_run run k from below) (elim (is_free flags k) as (λ t. (t && false) ≡ false) [ true ↦ refl | false ↦ refl ])

and_true : (t : Bool) → (t && true) ≡ t
and_true true = refl
and_true false = refl

pub free_without_below : (flags : List Bool) (run : Run) (k : ℕ) → k < run.start → is_free (without flags run) k ≡ is_free flags k
free_without_below flags run k below = free_without flags run k ∙ rw (below_run run k below) (and_true (is_free flags k))

pub free_without_past : (flags : List Bool) (run : Run) (k : ℕ) → run.start + run.count ≤ k → is_free (without flags run) k ≡ is_free flags k
free_without_past flags run k past = free_without flags run k ∙ rw (past_run run k past) (and_true (is_free flags k))

-- With blocks.

pub length_with : (flags : List Bool) (blocks : List ℕ) → length (with_blocks flags blocks) ≡ length flags
unfolding with_blocks
length_with flags blocks = length_flags_by (length flags) (λ k. is_free flags k || ltb 0 (uses blocks k))

-- a block of the set is free then if and only if it was free or is one of these
pub free_with : (flags : List Bool) (blocks : List ℕ) (k : ℕ) → k < length flags → is_free (with_blocks flags blocks) k ≡ (is_free flags k || ltb 0 (uses blocks k))
unfolding with_blocks
free_with flags blocks k below = flag_below (length flags) (λ j. is_free flags j || ltb 0 (uses blocks j)) k below

-- Uses of a block in lists of blocks.

pub uses_cons : (b : ℕ) (blocks : List ℕ) (k : ℕ) → uses (b ∷ blocks) k ≡ one_if (eqb b k) + uses blocks k
uses_cons b blocks k = sum_by-cons (λ x. cond (eqb x k) 1 0) b blocks

pub uses_append : (first second : List ℕ) (k : ℕ) → uses (first ++ second) k ≡ uses first k + uses second k
uses_append first second k = sum_by-append (λ x. cond (eqb x k) 1 0) first second

one_use : (b k : ℕ) → b ≡ k → one_if (eqb b k) ≡ 1
one_use b k same = rw (eq-eqb b k same) refl

no_use : (b k : ℕ) → b ≢ k → one_if (eqb b k) ≡ 0
no_use b k other = rw (ne_eqb b k other) refl

uses_range_outside : (a n k : ℕ) → (k < a) ⊎ (a + n ≤ k) → uses (range_with_len a n) k ≡ 0
uses_range_outside a zero k out = refl
uses_range_outside a (suc n) k out =
    let other : a ≢ k = λ e. ⊎_elim (λ h. omega arith) (λ h. omega arith) out in
    let rest : (k < a + 1) ⊎ (a + 1 + n ≤ k) = ⊎_elim (λ h. inl (omega arith)) (λ h. inr (omega arith)) out in
    uses_cons a (range_with_len (a + 1) n) k ∙ rw (no_use a k other, uses_range_outside (a + 1) n k rest) (omega arith)

uses_range_inside : (a n k : ℕ) → a ≤ k → k < a + n → uses (range_with_len a n) k ≡ 1
uses_range_inside a zero k from below = absurd (omega arith)
uses_range_inside a (suc n) k from below =
    uses_cons a (range_with_len (a + 1) n) k
    ∙ elim (cases_eq a k) as (λ _. one_if (eqb a k) + uses (range_with_len (a + 1) n) k ≡ 1) [
      | inl same ↦ rw (one_use a k same, uses_range_outside (a + 1) n k (inl (omega arith))) (omega arith)
      | inr other ↦ rw (no_use a k other, uses_range_inside (a + 1) n k (omega arith) (omega arith)) (omega arith)
    ]

-- a run has each of its blocks once
pub uses_inside : (run : Run) (k : ℕ) → run.start ≤ k → k < run.start + run.count → uses (run_blocks run) k ≡ 1
uses_inside run k from below = uses_range_inside run.start run.count k from below

pub uses_outside : (run : Run) (k : ℕ) → (k < run.start) ⊎ (run.start + run.count ≤ k) → uses (run_blocks run) k ≡ 0
uses_outside run k out = uses_range_outside run.start run.count k out

-- the run of `count` blocks from `start` on
abbrev pub run_of : ℕ → ℕ → Run
run_of start count = record { start = start; count = count }

-- One block after another.

pub without_none : (flags : List Bool) (start : ℕ) → without flags (run_of start 0) ≡ flags
without_none flags start =
    same_flags (without flags (run_of start 0)) flags (length_without flags (run_of start 0)) (λ k _.
    elim (cases_lt k start) as (λ _. is_free (without flags (run_of start 0)) k ≡ is_free flags k) [
      | inl below ↦ free_without_below flags (run_of start 0) k below
      | inr past ↦ free_without_past flags (run_of start 0) k (omega arith)
    ])

pub without_more : (flags : List Bool) (start n : ℕ) → start + n < length flags → without flags (run_of start (n + 1)) ≡ set (without flags (run_of start n)) (start + n) false
without_more flags start n fits =
    let old : List Bool = without flags (run_of start n) in
    let new : List Bool = without flags (run_of start (n + 1)) in
    let long : length old ≡ length flags = length_without flags (run_of start n) in
    let longer : length new ≡ length flags = length_without flags (run_of start (n + 1)) in
    same_flags new (set old (start + n) false) (longer ∙ sym (length-set old (start + n) false ∙ long)) (λ k _.
    elim (cases_eq k (start + n)) as (λ _. is_free new k ≡ is_free (set old (start + n) false) k) [
      | inl same ↦ free_without_inside flags (run_of start (n + 1)) k (omega arith) (omega arith)
          ∙ sym (ap (is_free (set old (start + n) false)) same ∙ get_or-set_same old (start + n) false false (omega arith))
      | inr other ↦ elim (cases_lt k start) as (λ _. is_free new k ≡ is_free (set old (start + n) false) k) [
        | inl below ↦ free_without_below flags (run_of start (n + 1)) k below
            ∙ sym (get_or-set_other old (start + n) k false false other ∙ free_without_below flags (run_of start n) k below)
        | inr from ↦ elim (cases_lt k (start + n)) as (λ _. is_free new k ≡ is_free (set old (start + n) false) k) [
          | inl inside ↦ free_without_inside flags (run_of start (n + 1)) k from (omega arith)
              ∙ sym (get_or-set_other old (start + n) k false false other ∙ free_without_inside flags (run_of start n) k from inside)
          | inr past ↦ free_without_past flags (run_of start (n + 1)) k (omega (arith, other))
              ∙ sym (get_or-set_other old (start + n) k false false other ∙ free_without_past flags (run_of start n) k past)
        ]
      ]
    ])

or_false : (t : Bool) → (t || false) ≡ t
or_false true = refl
or_false false = refl

or_true : (t : Bool) → (t || true) ≡ true
or_true true = refl
or_true false = refl

-- a block outside the list is free if and only if it was
pub free_with_other : (flags : List Bool) (blocks : List ℕ) (k : ℕ) → uses blocks k ≡ 0 → is_free (with_blocks flags blocks) k ≡ is_free flags k
free_with_other flags blocks k none =
    elim (cases_lt k (length flags)) as (λ _. is_free (with_blocks flags blocks) k ≡ is_free flags k) [
      | inl below ↦ free_with flags blocks k below ∙ rw none (or_false (is_free flags k))
      | inr past ↦ flag_past (with_blocks flags blocks) k (rw (length_with flags blocks) past) ∙ sym (flag_past flags k past)
    ]

pub free_with_these : (flags : List Bool) (blocks : List ℕ) (k : ℕ) → k < length flags → 0 < uses blocks k → is_free (with_blocks flags blocks) k ≡ true
free_with_these flags blocks k below some = free_with flags blocks k below ∙ rw (lt-ltb 0 (uses blocks k) some) (or_true (is_free flags k))

pub with_none : (flags : List Bool) → with_blocks flags [] ≡ flags
with_none flags = same_flags (with_blocks flags []) flags (length_with flags []) (λ k _. free_with_other flags [] k refl)

test_sum : (m n : ℕ) → (ltb 0 m || ltb 0 n) ≡ ltb 0 (m + n)
test_sum zero n = (let e : n ≡ zero + n = omega arith in ap (ltb 0) e)
test_sum (suc m) n = rw (lt-ltb 0 (suc m) (omega arith)) (sym (lt-ltb 0 (suc m + n) (omega arith)))

or_assoc : (a b c : Bool) → ((a || b) || c) ≡ (a || (b || c))
or_assoc true b c = refl
or_assoc false b c = refl

-- these blocks freed and then those
pub with_append : (flags : List Bool) (first second : List ℕ) → with_blocks (with_blocks flags first) second ≡ with_blocks flags (first ++ second)
with_append flags first second =
    let mid : List Bool = with_blocks flags first in
    let e : length mid ≡ length flags = length_with flags first in
    let whole : length (with_blocks mid second) ≡ length flags = length_with mid second ∙ e in
    same_flags (with_blocks mid second) (with_blocks flags (first ++ second)) (whole ∙ sym (length_with flags (first ++ second))) (λ k below.
    let within : k < length flags = omega arith in
    free_with mid second k (omega arith)
    ∙ ap (λ t. t || ltb 0 (uses second k)) (free_with flags first k within)
    ∙ or_assoc (is_free flags k) (ltb 0 (uses first k)) (ltb 0 (uses second k))
    ∙ ap (λ t. is_free flags k || t) (test_sum (uses first k) (uses second k) ∙ ap (ltb 0) (sym (uses_append first second k)))
    ∙ sym (free_with flags (first ++ second) k within))

pub with_one : (flags : List Bool) (b : ℕ) → b < length flags → with_blocks flags (b ∷ []) ≡ set flags b true
with_one flags b fits =
    same_flags (with_blocks flags (b ∷ [])) (set flags b true) (length_with flags (b ∷ []) ∙ sym (length-set flags b true)) (λ k _.
    elim (cases_eq b k) as (λ _. is_free (with_blocks flags (b ∷ [])) k ≡ is_free (set flags b true) k) [
      | inl same ↦ (let one : uses (b ∷ []) k ≡ 1 = uses_cons b [] k ∙ rw (one_use b k same) refl in
          free_with_these flags (b ∷ []) k (omega arith) (omega arith)
          ∙ sym (ap (is_free (set flags b true)) (sym same) ∙ get_or-set_same flags b true false fits))
      | inr other ↦ (let none : uses (b ∷ []) k ≡ 0 = uses_cons b [] k ∙ rw (no_use b k other) refl in
          free_with_other flags (b ∷ []) k none ∙ sym (get_or-set_other flags b k true false (λ e. other (sym e))))
    ])

-- one more block freed
pub with_push : (flags : List Bool) (blocks : List ℕ) (b : ℕ) → b < length flags → with_blocks flags (blocks ++ b ∷ []) ≡ set (with_blocks flags blocks) b true
with_push flags blocks b fits = sym (with_append flags blocks (b ∷ [])) ∙ with_one (with_blocks flags blocks) b (rw (length_with flags blocks) fits)

-- the same set, whichever is freed first
with_first_last : (flags : List Bool) (blocks : List ℕ) (b : ℕ) → b < length flags → with_blocks flags (b ∷ blocks) ≡ set (with_blocks flags blocks) b true
with_first_last flags blocks b fits =
    let first : List Bool = with_blocks flags (b ∷ blocks) in
    let last : List Bool = with_blocks flags (blocks ++ b ∷ []) in
    same_flags first last (length_with flags (b ∷ blocks) ∙ sym (length_with flags (blocks ++ b ∷ []))) (λ k below.
    let within : k < length flags = omega (arith, length_with flags (b ∷ blocks)) in
    let same : uses (b ∷ blocks) k ≡ uses (blocks ++ b ∷ []) k =
    omega (arith, uses_cons b blocks k, uses_append blocks (b ∷ []) k, uses_cons b [] k) in
    free_with flags (b ∷ blocks) k within ∙ ap (λ n. is_free flags k || ltb 0 n) same ∙ sym (free_with flags (blocks ++ b ∷ []) k within))
    ∙ with_push flags blocks b fits

-- a run freed, one block after another
pub range_more : (a n : ℕ) → range_with_len a (n + 1) ≡ range_with_len a n ++ (a + n) ∷ []
range_more a n =
    sym (map-id (range_with_len a (n + 1))) ∙ map-range_with_len_more (λ (k : ℕ). k) a n (a + n) refl
    ∙ ap (λ xs. xs ++ (a + n) ∷ []) (map-id (range_with_len a n))

pub with_more : (flags : List Bool) (start n : ℕ) → start + n < length flags → with_blocks flags (run_blocks (run_of start (n + 1))) ≡ set (with_blocks flags (run_blocks (run_of start n))) (start + n) true
with_more flags start n fits =
    ap (with_blocks flags) (range_more start n) ∙ with_push flags (range_with_len start n) (start + n) fits

-- Counts.

pub count_used : (flags : List Bool) (b : ℕ) → is_free flags b ≡ true → free_count (set flags b false) + 1 ≡ free_count flags
count_used flags b free =
    let s = sum_by-set (λ (t : Bool). cond t 1 0) flags b false false (free_below flags b free) in
    let e : one_if (is_free flags b) ≡ 1 = rw free refl in
    omega (arith, s, e)

pub count_freed : (flags : List Bool) (b : ℕ) → b < length flags → is_free flags b ≡ false → free_count (set flags b true) ≡ free_count flags + 1
count_freed flags b fits used =
    let s = sum_by-set (λ (t : Bool). cond t 1 0) flags b true false fits in
    let e : one_if (is_free flags b) ≡ 0 = rw used refl in
    omega (arith, s, e)

pub count_no_more : (flags : List Bool) → free_count flags ≤ length flags
count_no_more flags = count_by-le-length (λ (t : Bool). t) flags

pub count_all : (n : ℕ) → free_count (replicate n true) ≡ n
count_all n = sum_by-replicate (λ (t : Bool). one_if t) n true ∙ omega arith

-- a free block is counted
pub count_some : (flags : List Bool) (k : ℕ) → is_free flags k ≡ true → 0 < free_count flags
count_some flags k free =
    let s = get_or-le-sum_by (λ (t : Bool). cond t 1 0) flags k false (free_below flags k free) in
    let e : one_if (is_free flags k) ≡ 1 = rw free refl in
    omega (arith, s, e)

-- if the count is 0, no block is free
pub count_none : (flags : List Bool) → free_count flags ≡ 0 → NoneFree flags
count_none flags none k =
    elim (is_free flags k) as (λ t. is_free flags k ≡ t → is_free flags k ≡ false) [
      | true ↦ λ free. (let some = count_some flags k free in absurd (omega arith))
      | false ↦ λ used. used
    ] refl

-- all blocks of a run used: the count falls by as many
pub count_without : (flags : List Bool) (start n : ℕ) → start + n ≤ length flags → AllFree flags (run_of start n) → free_count (without flags (run_of start n)) + n ≡ free_count flags
count_without flags start zero fits free = rw (without_none flags start) (omega arith)
count_without flags start (suc n) fits free =
    let e : suc n ≡ n + 1 = omega arith in
    let now : is_free (without flags (run_of start n)) (start + n) ≡ true =
    free_without_past flags (run_of start n) (start + n) (omega arith) ∙ free (start + n) (omega arith) (omega arith) in
    let so_far = count_without flags start n (omega arith) (λ k from below. free k from (omega arith)) in
    let step = count_used (without flags (run_of start n)) (start + n) now in
    let more = ap (λ m. free_count (without flags (run_of start m))) e ∙ ap free_count (without_more flags start n (omega arith)) in
    omega (arith, so_far, step, more)

apart : (b : ℕ) (blocks : List ℕ) (k : ℕ) → uses blocks k ≤ uses (b ∷ blocks) k
apart b blocks k = omega (arith, uses_cons b blocks k)

-- different blocks freed, none of them free: the count grows by as many
pub count_with : (flags : List Bool) (blocks : List ℕ) → ((k : ℕ) → 0 < uses blocks k → (k < length flags) × (is_free flags k ≡ false)) → ((k : ℕ) → uses blocks k ≤ 1) → free_count (with_blocks flags blocks) ≡ free_count flags + length blocks
count_with flags [] used different = rw (with_none flags) (omega arith)
count_with flags (b ∷ rest) used different =
    let here : uses (b ∷ rest) b ≡ 1 + uses rest b = uses_cons b rest b ∙ rw (one_use b b refl) refl in
    let once : uses rest b ≡ 0 = (let d = different b in omega arith) in
    let of_b = used b (omega arith) in
    let now : is_free (with_blocks flags rest) b ≡ false = free_with_other flags rest b once ∙ of_b.1 in
    let so_far = count_with flags rest (λ k some. used k (omega (arith, apart b rest k, some))) (λ k. omega (arith, apart b rest k, different k)) in
    let step = count_freed (with_blocks flags rest) b (rw (length_with flags rest) of_b.0) now in
    let turned : with_blocks flags (b ∷ rest) ≡ set (with_blocks flags rest) b true = with_first_last flags rest b of_b.0 in
    omega (arith, so_far, step, ap free_count turned)

pub uses_once : (run : Run) (k : ℕ) → uses (run_blocks run) k ≤ 1
uses_once run k =
    elim (cases_lt k run.start) as (λ _. uses (run_blocks run) k ≤ 1) [
      | inl below ↦ omega (arith, uses_outside run k (inl below))
      | inr from ↦ elim (cases_lt k (run.start + run.count)) as (λ _. uses (run_blocks run) k ≤ 1) [
        | inl inside ↦ omega (arith, uses_inside run k from inside)
        | inr past ↦ omega (arith, uses_outside run k (inr past))
      ]
    ]

-- a block that a run has lies in it
pub used_within : (run : Run) (k : ℕ) → 0 < uses (run_blocks run) k → (run.start ≤ k) × (k < run.start + run.count)
used_within run k some =
    elim (cases_lt k run.start) as (λ _. (run.start ≤ k) × (k < run.start + run.count)) [
      | inl below ↦ absurd (omega (arith, uses_outside run k (inl below)))
      | inr from ↦ elim (cases_lt k (run.start + run.count)) as (λ _. (run.start ≤ k) × (k < run.start + run.count)) [
        | inl inside ↦ (from, inside)
        | inr past ↦ absurd (omega (arith, uses_outside run k (inr past)))
      ]
    ]

-- all blocks of a used run freed: the count grows by as many
pub count_with_run : (flags : List Bool) (run : Run) → run.start + run.count ≤ length flags → AllUsed flags run → free_count (with_blocks flags (run_blocks run)) ≡ free_count flags + run.count
count_with_run flags run fits none =
    count_with flags (run_blocks run)
    (λ k some. (let w = used_within run k some in (omega (arith, w.1), none k w.0 w.1)))
    (uses_once run)
    ∙ ap (λ n. free_count flags + n) (length-range_with_len run.start run.count)

-- The counts of a block: whether it is free and how often it is used add up as before.

pub one_free_without : (flags : List Bool) (run : Run) → AllFree flags run → (k : ℕ) → one_if (is_free (without flags run) k) + uses (run_blocks run) k ≡ one_if (is_free flags k)
one_free_without flags run free k =
    elim (cases_lt k run.start) as (λ _. one_if (is_free (without flags run) k) + uses (run_blocks run) k ≡ one_if (is_free flags k)) [
      | inl below ↦ rw (free_without_below flags run k below, uses_outside run k (inl below)) (omega arith)
      | inr from ↦ elim (cases_lt k (run.start + run.count)) as (λ _. one_if (is_free (without flags run) k) + uses (run_blocks run) k ≡ one_if (is_free flags k)) [
        | inl inside ↦ rw (free_without_inside flags run k from inside, uses_inside run k from inside, free k from inside) refl
        | inr past ↦ rw (free_without_past flags run k past, uses_outside run k (inr past)) (omega arith)
      ]
    ]

pub one_free_with : (flags : List Bool) (blocks : List ℕ) → ((k : ℕ) → 0 < uses blocks k → (k < length flags) × (is_free flags k ≡ false)) → ((k : ℕ) → uses blocks k ≤ 1) → (k : ℕ) → one_if (is_free (with_blocks flags blocks) k) ≡ one_if (is_free flags k) + uses blocks k
one_free_with flags blocks used different k =
    elim (cases_lt 0 (uses blocks k)) as (λ _. one_if (is_free (with_blocks flags blocks) k) ≡ one_if (is_free flags k) + uses blocks k) [
      | inl some ↦ (let u = used k some in
          let once : uses blocks k ≡ 1 = (let d = different k in omega arith) in
          rw (free_with_these flags blocks k u.0 some, u.1, once) refl)
      | inr none ↦ (let never : uses blocks k ≡ 0 = omega arith in
          rw (free_with_other flags blocks k never, never) (omega arith))
    ]

-- The shortest runs with some blocks, which a run list gives.

-- different blocks of the set, none of them free, may be given back as their runs
pub used_runs : (flags : List Bool) (blocks : List ℕ) → ((k : ℕ) → 0 < uses blocks k → (k < length flags) × (is_free flags k ≡ false)) → ((k : ℕ) → uses blocks k ≤ 1) → AreUsed flags (runs_of blocks)
used_runs flags blocks used different = record {
  some = runs_have_blocks blocks;
  used = λ k some. used k (omega (arith, ap (λ bs. uses bs k) (blocks_of_runs blocks), some));
  different = λ k. omega (arith, ap (λ bs. uses bs k) (blocks_of_runs blocks), different k);
}

-- and then these blocks are free as well
pub with_their_runs : (flags : List Bool) (blocks : List ℕ) → with_runs flags (runs_of blocks) ≡ with_blocks flags blocks
with_their_runs flags blocks = ap (with_blocks flags) (blocks_of_runs blocks)

-- The effect of a call on the counts of a block and of all blocks.

pub marked_one : (old new : List Bool) (run : Run) → AllFree old run → new ≡ without old run → (k : ℕ) → one_if (is_free new k) + uses (run_blocks run) k ≡ one_if (is_free old k)
marked_one old new run free is k = ap (λ f. one_if (is_free f k) + uses (run_blocks run) k) is ∙ one_free_without old run free k

pub marked_count : (old new : List Bool) (run : Run) → run.start + run.count ≤ length old → AllFree old run → new ≡ without old run → free_count new + run.count ≡ free_count old
marked_count old new run fits free is = ap (λ f. free_count f + run.count) is ∙ count_without old run.start run.count fits free

pub given_one : (flags : List Bool) (runs : List Run) → AreUsed flags runs → (k : ℕ) → one_if (is_free (with_runs flags runs) k) ≡ one_if (is_free flags k) + uses (blocks_of runs) k
given_one flags runs are k = one_free_with flags (blocks_of runs) are.used are.different k

pub given_count : (flags : List Bool) (runs : List Run) → AreUsed flags runs → free_count (with_runs flags runs) ≡ free_count flags + length (blocks_of runs)
given_count flags runs are = count_with flags (blocks_of runs) are.used are.different

-- Runs that are in use.

pub no_runs : (flags : List Bool) → AreUsed flags []
no_runs flags = record {
  some = All-nil (λ (run : Run). 1 ≤ run.count);
  used = λ k some. absurd (omega arith);
  different = λ k. omega arith;
}

-- runs in use stay so while another one is taken
pub used_without : (flags : List Bool) (runs : List Run) (run : Run) → AreUsed flags runs → AreUsed (without flags run) runs
used_without flags runs run are = record {
  some = are.some;
  used = λ k some. (let u = are.used k some in
      (rw (length_without flags run) u.0, free_without flags run k ∙ rw u.1 refl));
  different = are.different;
}

never_both : (flags : List Bool) (runs : List Run) (k : ℕ) → AreUsed flags runs → is_free flags k ≡ true → uses (blocks_of runs) k ≡ 0
never_both flags runs k are free =
    elim (cases_lt 0 (uses (blocks_of runs) k)) as (λ _. uses (blocks_of runs) k ≡ 0) [
      | inl some ↦ (let u = are.used k some in let e : true ≡ false = sym free ∙ u.1 in cc)
      | inr none ↦ omega arith
    ]

-- and it is in use then as well
pub taken_used : (flags : List Bool) (runs : List Run) (run : Run) → AreUsed flags runs → AllFree flags run → 1 ≤ run.count → run.start + run.count ≤ length flags → AreUsed (without flags run) (run ∷ runs)
taken_used flags runs run are free more fits =
    let long = length_without flags run in
    let sum = uses_append (run_blocks run) (blocks_of runs) in
    record {
      some = All-cons (λ (r : Run). 1 ≤ r.count) run runs more are.some;
      used = λ k some. elim (cases_lt 0 (uses (run_blocks run) k)) as (λ _. (k < length (without flags run)) × (is_free (without flags run) k ≡ false)) [
        | inl here ↦ (let w = used_within run k here in (omega (arith, long, w.1), free_without_inside flags run k w.0 w.1))
        | inr there ↦ (used_without flags runs run are).used k (omega (arith, sum k))
      ];
      different = λ k. elim (cases_lt 0 (uses (run_blocks run) k)) as (λ _. uses (blocks_of (run ∷ runs)) k ≤ 1) [
        | inl here ↦ (let w = used_within run k here in omega (arith, sum k, uses_once run k, never_both flags runs k are (free k w.0 w.1)))
        | inr there ↦ omega (arith, sum k, are.different k)
      ];
    }

pub same_used : (old new : List Bool) (runs : List Run) → new ≡ old → AreUsed old runs → AreUsed new runs
same_used old new runs same are = let P : List Bool → Type 0 = λ f. AreUsed f runs in subst P (sym same) are

-- runs in use stay so whatever marking another run answers
pub used_marked : (old new : List Bool) (runs : List Run) (run : Run) (result : Result (Unit {0}) UseFault) → AreUsed old runs → Marks old run result new → AreUsed new runs
used_marked old new runs run (Ok _) are m = same_used (without old run) new runs m.2 (used_without old runs run are)
used_marked old new runs run (Err OutOfRange) are m = same_used old new runs m.1 are
used_marked old new runs run (Err InUse) are m = same_used old new runs m.2 are

-- and so they do, with the one that is taken
pub used_taken : (old new : List Bool) (runs : List Run) (want : ℕ) (run : Run) → AreUsed old runs → Takes old want run new → AreUsed new (run ∷ runs)
used_taken old new runs want run are t = same_used (without old run) new (run ∷ runs) t.taken (taken_used old runs run are t.free t.some t.within)
