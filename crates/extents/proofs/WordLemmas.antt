-- Bits in words of 64 bits, and the second level over these words.
use Rattle.std.proofs.Common.{◌≡◌, ◌≢◌, inl, inr, ℕ, ◌+◌, ◌-◌, ◌*◌, ◌/◌, ◌%◌, ◌^◌, ◌<◌, ◌≤◌, true, false, cond, List, length, get_or, set, refl, sym, ap, ◌∙◌, arith, min, max, bit_and, bit_or}
use Rattle.std.proofs.lemmas.List.{get_or-set_same, get_or-set_other}
use Rattle.std.proofs.Math.Dec.{ltb}
use Rattle.std.proofs.lemmas.Bool.{cases_lt, cases_eq}
use Rattle.std.specs.Int.{bit_at, bit_not, w64, trailing_zeros}
use mir.Val.{bits}
use Rattle.std.proofs.lemmas.Nat.Bits.{bit_at-zero, bit_at-lt, bit_at_and, bit_at_or, bit_at_not, bit_at-trailing_zeros, bit_at_ones, bit_at_ones_above, bit_at_mask_inside, bit_at_mask_below, ones_shl, ones_shr}
use Rattle.extents.specs.FreeSet.{is_within, one_if}
use Rattle.extents.specs.FreeWords.{bit_of, IsSecondLevel, AreWritten, IsFreeStart}
use Rattle.extents.specs.FreeLaws.{below_run, past_run, within_run}
use Rattle.extents.specs.declared.run_list.Run.{Run}

-- One word written.

pub bit_same : (words : List ℕ) (place word k : ℕ) → place < length words → k / 64 ≡ place → bit_of (set words place word) k ≡ bit_at word (k % 64)
bit_same words place word k within row =
    ap (λ j. bit_at (get_or (set words place word) j 0) (k % 64)) row ∙ ap (λ w. bit_at w (k % 64)) (get_or-set_same words place word 0 within)

pub bit_other : (words : List ℕ) (place word k : ℕ) → k / 64 ≢ place → bit_of (set words place word) k ≡ bit_of words k
bit_other words place word k row = ap (λ w. bit_at w (k % 64)) (get_or-set_other words place (k / 64) word 0 row)

-- The bits of a run in one word.

-- the mask of those from `low` on and below `high`
pub mask_bits : (run : Run) (place low high i : ℕ) → low ≡ run.start - 64 * place → high ≡ min (run.start + run.count - 64 * place) 64 → run.start < 64 * place + 64 → 64 * place < run.start + run.count → i < 64
    → bit_at (bit_and ((2 ^ 64 - 1) * 2 ^ low % 2 ^ 64) ((2 ^ 64 - 1) / 2 ^ (64 - high))) i ≡ one_if (is_within run (64 * place + i))
mask_bits run place low high i is_low is_high begun not_over short =
    let e : 64 - (64 - high) ≡ high = omega arith in
    let from_low : bit_at ((2 ^ 64 - 1) * 2 ^ low % 2 ^ 64) i ≡ bit_at (2 ^ 64 - 2 ^ low) i = ap (λ n. bit_at n i) (ones_shl 64 low (omega arith)) in
    let to_high : bit_at ((2 ^ 64 - 1) / 2 ^ (64 - high)) i ≡ bit_at (2 ^ high - 1) i = ap (λ n. bit_at n i) (ones_shr 64 (64 - high) (omega arith) ∙ ap (λ k. 2 ^ k - 1) e) in
    bit_at_and ((2 ^ 64 - 1) * 2 ^ low % 2 ^ 64) ((2 ^ 64 - 1) / 2 ^ (64 - high)) i
    ∙ ap (λ n. min n (bit_at ((2 ^ 64 - 1) / 2 ^ (64 - high)) i)) from_low ∙ ap (λ n. min (bit_at (2 ^ 64 - 2 ^ low) i) n) to_high
    ∙ elim (cases_lt i low) as (λ _. min (bit_at (2 ^ 64 - 2 ^ low) i) (bit_at (2 ^ high - 1) i) ≡ one_if (is_within run (64 * place + i))) [
      | inl below ↦ (
          let a : bit_at (2 ^ 64 - 2 ^ low) i ≡ 0 = bit_at_mask_below low 64 i below in
          let b : one_if (is_within run (64 * place + i)) ≡ 0 = ap one_if (below_run run (64 * place + i) (omega arith)) in
          omega (arith, a, b))
      | inr from ↦ (
          let a : bit_at (2 ^ 64 - 2 ^ low) i ≡ 1 = bit_at_mask_inside low 64 i from short in
          elim (cases_lt i high) as (λ _. min (bit_at (2 ^ 64 - 2 ^ low) i) (bit_at (2 ^ high - 1) i) ≡ one_if (is_within run (64 * place + i))) [
            | inl inside ↦ (
                let b : bit_at (2 ^ high - 1) i ≡ 1 = bit_at_ones high i inside in
                let d : one_if (is_within run (64 * place + i)) ≡ 1 = ap one_if (within_run run (64 * place + i) (omega arith) (omega arith)) in
                omega (arith, a, b, d))
            | inr past ↦ (
                let b : bit_at (2 ^ high - 1) i ≡ 0 = bit_at_ones_above high i past in
                let d : one_if (is_within run (64 * place + i)) ≡ 0 = ap one_if (past_run run (64 * place + i) (omega arith)) in
                omega (arith, a, b, d))
          ])
    ]

-- A word with a mask of a run's bits: cleared, set, and of those that it has not.
module _ (run : Run) (place word mask : ℕ) (fits : mask < 2 ^ 64) (bits_are : (i : ℕ) → i < 64 → bit_at mask i ≡ one_if (is_within run (64 * place + i))) where
  pub bits_cleared : (i : ℕ) → i < 64 → bit_at (bit_and word (bit_not w64 mask)) i ≡ cond (is_within run (64 * place + i)) 0 (bit_at word i)
  bits_cleared i short =
      bit_at_and word (bit_not w64 mask) i
      ∙ ap (λ n. min (bit_at word i) n) (bit_at_not w64 mask i fits short ∙ ap (λ n. 1 - n) (bits_are i short))
      ∙ elim (is_within run (64 * place + i)) as (λ t. min (bit_at word i) (1 - one_if t) ≡ cond t 0 (bit_at word i)) [
        | true ↦ omega arith
        | false ↦ omega (arith, bit_at-lt word i)
      ]

  pub bits_set : (i : ℕ) → i < 64 → bit_at (bit_or word mask) i ≡ cond (is_within run (64 * place + i)) 1 (bit_at word i)
  bits_set i short =
      bit_at_or word mask i
      ∙ ap (λ n. max (bit_at word i) n) (bits_are i short)
      ∙ elim (is_within run (64 * place + i)) as (λ t. max (bit_at word i) (one_if t) ≡ cond t 1 (bit_at word i)) [
        | true ↦ omega (arith, bit_at-lt word i)
        | false ↦ omega arith
      ]

  pub bits_missing : word < 2 ^ 64 → (i : ℕ) → i < 64 → bit_at (bit_and (bit_not w64 word) mask) i ≡ cond (is_within run (64 * place + i)) (1 - bit_at word i) 0
  bits_missing short_word i short =
      bit_at_and (bit_not w64 word) mask i
      ∙ ap (λ n. min n (bit_at mask i)) (bit_at_not w64 word i short_word short)
      ∙ ap (λ n. min (1 - bit_at word i) n) (bits_are i short)
      ∙ elim (is_within run (64 * place + i)) as (λ t. min (1 - bit_at word i) (one_if t) ≡ cond t (1 - bit_at word i) 0) [
        | true ↦ omega arith
        | false ↦ omega arith
      ]

-- The bits of a run written word by word: in `now` those below word `place` are.
pub record IsWrittenTo (old now : List ℕ) (run : Run) (value place : ℕ) : Type 0 where
  pub done : (k : ℕ) → k < 64 * place → bit_of now k ≡ cond (is_within run k) value (bit_of old k)
  pub left : (k : ℕ) → 64 * place ≤ k → bit_of now k ≡ bit_of old k

pub written_more : (old now : List ℕ) (run : Run) (value place word before : ℕ) → place < length now → before ≡ get_or now place 0
    → ((i : ℕ) → i < 64 → bit_at word i ≡ cond (is_within run (64 * place + i)) value (bit_at before i))
    → IsWrittenTo old now run value place → IsWrittenTo old (set now place word) run value (place + 1)
written_more old now run value place word before within is here so_far =
    record {
      done = λ k below. elim (cases_eq (k / 64) place) as (λ _. bit_of (set now place word) k ≡ cond (is_within run k) value (bit_of old k)) [
        | inl row ↦ (
            let e : 64 * place + k % 64 ≡ k = omega arith in
            let same : bit_at before (k % 64) ≡ bit_of old k =
            ap (λ w. bit_at w (k % 64)) is ∙ ap (λ j. bit_at (get_or now j 0) (k % 64)) (sym row) ∙ so_far.left k (omega arith) in
            bit_same now place word k within row ∙ here (k % 64) (omega arith)
            ∙ ap (λ j. cond (is_within run j) value (bit_at before (k % 64))) e
            ∙ ap (λ v. cond (is_within run k) value v) same)
        | inr row ↦ bit_other now place word k row ∙ so_far.done k (omega arith)
      ];
      left = λ k from. bit_other now place word k (λ row. omega arith) ∙ so_far.left k (omega arith);
    }

pub written_all : (old new : List ℕ) (run : Run) (value place : ℕ) → run.start + run.count ≤ 64 * place → IsWrittenTo old new run value place → AreWritten old run value new
written_all old new run value place over so_far k =
    elim (cases_lt k (64 * place)) as (λ _. bit_of new k ≡ cond (is_within run k) value (bit_of old k)) [
      | inl below ↦ so_far.done k below
      | inr from ↦ so_far.left k from ∙ rw (past_run run k (omega arith)) refl
    ]

-- The second level where a word is written.

some_bit : (words : List ℕ) (place word j : ℕ) → j ≢ place → one_if (ltb 0 (get_or (set words place word) j 0)) ≡ one_if (ltb 0 (get_or words j 0))
some_bit words place word j other = ap (λ w. one_if (ltb 0 w)) (get_or-set_other words place j word 0 other)

-- The bit of the second level is changed in the word `group` of it.
pub second_more : (words groups : List ℕ) (place word group : ℕ) → place < length words → length words ≤ 64 * length groups
    → bit_at group (place % 64) ≡ one_if (ltb 0 word)
    → ((i : ℕ) → i < 64 → i ≢ place % 64 → bit_at group i ≡ bit_at (get_or groups (place / 64) 0) i)
    → IsSecondLevel groups words → IsSecondLevel (set groups (place / 64) group) (set words place word)
second_more words groups place word group within enough here others second j =
    let row_within : place / 64 < length groups = omega arith in
    let new : List ℕ = set groups (place / 64) group in
    elim (cases_eq j place) as (λ _. bit_of new j ≡ one_if (ltb 0 (get_or (set words place word) j 0))) [
      | inl same ↦ bit_same groups (place / 64) group j row_within (ap (λ n. n / 64) same)
          ∙ ap (λ n. bit_at group (n % 64)) same ∙ here
          ∙ sym (ap (λ n. one_if (ltb 0 (get_or (set words place word) n 0))) same ∙ ap (λ w. one_if (ltb 0 w)) (get_or-set_same words place word 0 within))
      | inr other ↦ elim (cases_eq (j / 64) (place / 64)) as (λ _. bit_of new j ≡ one_if (ltb 0 (get_or (set words place word) j 0))) [
        | inl row ↦ (
            let column : j % 64 ≢ place % 64 = λ same. other (omega (arith, same, row)) in
            bit_same groups (place / 64) group j row_within row ∙ others (j % 64) (omega arith) column
            ∙ ap (λ n. bit_at (get_or groups n 0) (j % 64)) (sym row) ∙ second j ∙ sym (some_bit words place word j other))
        | inr row ↦ bit_other groups (place / 64) group j row ∙ second j ∙ sym (some_bit words place word j other)
      ]
    ]

-- `free_at_start`: the bits of the run below word `place` are all set.
module _ (words : List ℕ) (run : Run) (place : ℕ) (so_far : (k : ℕ) → run.start ≤ k → k < run.start + run.count → k < 64 * place → bit_of words k ≡ 1) where
  pub all_set : run.start + run.count ≤ 64 * place → IsFreeStart words run run.count
  all_set over = record {
    at_most = omega arith;
    free = λ k from below. so_far k from below (omega arith);
    longest = inl refl;
  }

  -- The word there, and those bits of the run that it has not.
  module _ (word used : ℕ) (is : word ≡ get_or words place 0) (short : used < 2 ^ 64) (missing : (i : ℕ) → i < 64 → bit_at used i ≡ cond (is_within run (64 * place + i)) (1 - bit_at word i) 0) where
    word_bit : (k : ℕ) → k / 64 ≡ place → bit_at word (k % 64) ≡ bit_of words k
    word_bit k row = ap (λ w. bit_at w (k % 64)) is ∙ ap (λ j. bit_at (get_or words j 0) (k % 64)) (sym row)

    missing_at : (k : ℕ) → k / 64 ≡ place → run.start ≤ k → k < run.start + run.count → bit_at used (k % 64) ≡ 1 - bit_of words k
    missing_at k row from below =
        let e : 64 * place + k % 64 ≡ k = omega arith in
        missing (k % 64) (omega arith) ∙ ap (λ j. cond (is_within run j) (1 - bit_at word (k % 64)) 0) e
        ∙ rw (within_run run k from below) (ap (λ v. 1 - v) (word_bit k row))

    pub set_more : used ≡ 0 → (k : ℕ) → run.start ≤ k → k < run.start + run.count → k < 64 * (place + 1) → bit_of words k ≡ 1
    set_more none k from below before =
        elim (cases_lt k (64 * place)) as (λ _. bit_of words k ≡ 1) [
          | inl earlier ↦ so_far k from below earlier
          | inr here ↦ (
              let zero_bit : bit_at used (k % 64) ≡ 0 = ap (λ u. bit_at u (k % 64)) none ∙ bit_at-zero (k % 64) in
              let m = missing_at k (omega arith) from below in
              omega (arith, zero_bit, m, bit_at-lt (get_or words (k / 64) 0) (k % 64)))
        ]

    module _ (some : 0 < used) where
      first_used : (trailing_zeros w64 used < bits w64) × (bit_at used (trailing_zeros w64 used) ≡ 1) × ((i : ℕ) → i < trailing_zeros w64 used → bit_at used i ≡ 0)
      first_used = bit_at-trailing_zeros w64 used some short

      pub used_within : (run.start ≤ 64 * place + trailing_zeros w64 used) × (64 * place + trailing_zeros w64 used < run.start + run.count)
      used_within =
          let f = first_used in
          let z : ℕ = trailing_zeros w64 used in
          let m = missing z f.0 in
          elim (cases_lt (64 * place + z) run.start) as (λ _. (run.start ≤ 64 * place + z) × (64 * place + z < run.start + run.count)) [
            | inl before ↦ (let e : bit_at used z ≡ 0 = m ∙ rw (below_run run (64 * place + z) before) refl in absurd (omega (arith, e, f.1)))
            | inr from ↦ elim (cases_lt (64 * place + z) (run.start + run.count)) as (λ _. (run.start ≤ 64 * place + z) × (64 * place + z < run.start + run.count)) [
              | inl inside ↦ (from, inside)
              | inr past ↦ (let e : bit_at used z ≡ 0 = m ∙ rw (past_run run (64 * place + z) past) refl in absurd (omega (arith, e, f.1)))
            ]
          ]

      pub set_up_to : (count : ℕ) → run.start + count ≡ 64 * place + trailing_zeros w64 used → IsFreeStart words run count
      set_up_to count is_count =
          let f = first_used in
          let w = used_within in
          let z : ℕ = trailing_zeros w64 used in
          record {
            at_most = omega arith;
            free = λ k from below. elim (cases_lt k (64 * place)) as (λ _. bit_of words k ≡ 1) [
              | inl earlier ↦ so_far k from (omega arith) earlier
              | inr here ↦ (
                  let zero_bit : bit_at used (k % 64) ≡ 0 = f.2 (k % 64) (omega arith) in
                  let m = missing_at k (omega arith) from (omega arith) in
                  omega (arith, zero_bit, m, bit_at-lt (get_or words (k / 64) 0) (k % 64)))
            ];
            longest = inr (
                let k : ℕ = run.start + count in
                let column : k % 64 ≡ z = omega arith in
                let one_bit : bit_at used (k % 64) ≡ 1 = ap (bit_at used) column ∙ f.1 in
                let m = missing_at k (omega arith) (omega arith) (omega arith) in
                omega (arith, one_bit, m, bit_at-lt (get_or words (k / 64) 0) (k % 64)));
          }

-- The lowest bit that is set, in the first word that is not 0.
module _ (words : List ℕ) (place word : ℕ) (is : word ≡ get_or words place 0) (some : 0 < word) (fits : word < 2 ^ 64) where
  lowest_bit : (trailing_zeros w64 word < bits w64) × (bit_at word (trailing_zeros w64 word) ≡ 1) × ((i : ℕ) → i < trailing_zeros w64 word → bit_at word i ≡ 0)
  lowest_bit = bit_at-trailing_zeros w64 word some fits

  pub lowest_short : trailing_zeros w64 word < 64
  lowest_short = lowest_bit.0

  pub lowest_set : bit_of words (place * 64 + trailing_zeros w64 word) ≡ 1
  lowest_set =
      let short = lowest_bit.0 in
      let k : ℕ = place * 64 + trailing_zeros w64 word in
      let row : k / 64 ≡ place = omega arith in
      let column : k % 64 ≡ trailing_zeros w64 word = omega arith in
      ap (λ j. bit_at (get_or words j 0) (k % 64)) row ∙ ap (λ w. bit_at w (k % 64)) (sym is) ∙ ap (bit_at word) column ∙ lowest_bit.1

  pub none_lower : (k : ℕ) → 64 * place ≤ k → k < place * 64 + trailing_zeros w64 word → bit_of words k ≡ 0
  none_lower k from lower =
      let short = lowest_bit.0 in
      let row : k / 64 ≡ place = omega arith in
      ap (λ j. bit_at (get_or words j 0) (k % 64)) row ∙ ap (λ w. bit_at w (k % 64)) (sym is) ∙ lowest_bit.2 (k % 64) (omega arith)
