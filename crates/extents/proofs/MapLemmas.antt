-- Maps of free blocks: their flags, their counts and their second level.
use Rattle.std.proofs.Common.{◌≡◌, ◌⊎◌, inl, inr, ⊎_elim, ℕ, ◌+◌, ◌-◌, ◌*◌, ◌/◌, ◌%◌, ◌^◌, ◌<◌, ◌≤◌, Bool, true, false, not, ◌&&◌, cond, List, length, get_or, replicate, refl, sym, ap, ◌∙◌, arith, min}
use Rattle.std.proofs.lemmas.List.{length-replicate, get_or-replicate, get_or_past}
use Rattle.std.proofs.lemmas.List.Folds.{sum_by-replicate}
use Rattle.std.proofs.lemmas.Bool.{cases_lt, lt-ltb}
use Rattle.std.proofs.Math.Dec.{eqb, ltb}
use Rattle.std.specs.Int.{bit_at, w64, trailing_zeros}
use Rattle.std.proofs.lemmas.Nat.Bits.{bit_at-zero}
use Rattle.extents.specs.FreeSet.{is_free, free_count, is_within, one_if, without, with_blocks, AllFree, AllUsed, NoneFree, IsStretch}
use Rattle.extents.specs.FreeWords.{bit_of, flags_of, IsMap, IsSecondLevel, IsFirstNotZero, IsFreeStart, AreWritten}
use Rattle.extents.specs.FreeLaws.{length_flags_by, flag_below, flag_past, same_flags, all_free, run_of, below_run, past_run, within_run, free_without, free_with_other, free_with_these, uses_inside, uses_outside, length_without, length_with, count_without, count_with_run, count_no_more}
use Rattle.extents.specs.Runs.{run_blocks}
use Rattle.extents.specs.declared.run_list.Run.{Run}
use Rattle.extents.proofs.WordLemmas.{lowest_short, lowest_set, none_lower}

-- Flags and bits.

pub length_flags_of : (words : List ℕ) (n : ℕ) → length (flags_of words n) ≡ n
unfolding flags_of
length_flags_of words n = length_flags_by n (λ k. eqb (bit_of words k) 1)

pub flag_of : (words : List ℕ) (n k : ℕ) → k < n → is_free (flags_of words n) k ≡ eqb (bit_of words k) 1
unfolding flags_of
flag_of words n k below = flag_below n (λ j. eqb (bit_of words j) 1) k below

-- a block whose bit is not set is not free
pub zero_flag : (words : List ℕ) (n k : ℕ) → bit_of words k ≡ 0 → is_free (flags_of words n) k ≡ false
zero_flag words n k zero_bit =
    elim (cases_lt k n) as (λ _. is_free (flags_of words n) k ≡ false) [
      | inl below ↦ flag_of words n k below ∙ ap (λ v. eqb v 1) zero_bit
      | inr past ↦ flag_past (flags_of words n) k (omega (arith, length_flags_of words n))
    ]

and_not : (within : Bool) (b : ℕ) → eqb (cond within 0 b) 1 ≡ (eqb b 1 && not within)
and_not true b = elim (eqb b 1) as (λ t. false ≡ (t && false)) [ true ↦ refl | false ↦ refl ]
and_not false b = elim (eqb b 1) as (λ t. t ≡ (t && true)) [ true ↦ refl | false ↦ refl ]

-- the bits of a run cleared
pub without_written : (old new : List ℕ) (n : ℕ) (run : Run) → AreWritten old run 0 new → flags_of new n ≡ without (flags_of old n) run
without_written old new n run written =
    let flags : List Bool = flags_of old n in
    same_flags (flags_of new n) (without flags run) (length_flags_of new n ∙ sym (length_without flags run ∙ length_flags_of old n)) (λ k below.
    let within : k < n = omega (arith, length_flags_of new n) in
    flag_of new n k within ∙ ap (λ v. eqb v 1) (written k) ∙ and_not (is_within run k) (bit_of old k)
    ∙ ap (λ t. t && not (is_within run k)) (sym (flag_of old n k within)) ∙ sym (free_without flags run k))

-- and set
pub with_written : (old new : List ℕ) (n : ℕ) (run : Run) → AreWritten old run 1 new → flags_of new n ≡ with_blocks (flags_of old n) (run_blocks run)
with_written old new n run written =
    let flags : List Bool = flags_of old n in
    same_flags (flags_of new n) (with_blocks flags (run_blocks run)) (length_flags_of new n ∙ sym (length_with flags (run_blocks run) ∙ length_flags_of old n)) (λ k below.
    let within : k < n = omega (arith, length_flags_of new n) in
    flag_of new n k within ∙ ap (λ v. eqb v 1) (written k)
    ∙ elim (cases_lt k run.start) as (λ _. eqb (cond (is_within run k) 1 (bit_of old k)) 1 ≡ is_free (with_blocks flags (run_blocks run)) k) [
      | inl before ↦ ap (λ t. eqb (cond t 1 (bit_of old k)) 1) (below_run run k before) ∙ sym (flag_of old n k within)
          ∙ sym (free_with_other flags (run_blocks run) k (uses_outside run k (inl before)))
      | inr from ↦ elim (cases_lt k (run.start + run.count)) as (λ _. eqb (cond (is_within run k) 1 (bit_of old k)) 1 ≡ is_free (with_blocks flags (run_blocks run)) k) [
        | inl inside ↦ ap (λ t. eqb (cond t 1 (bit_of old k)) 1) (within_run run k from inside)
            ∙ sym (free_with_these flags (run_blocks run) k (omega (arith, length_flags_of old n)) (omega (arith, uses_inside run k from inside)))
        | inr past ↦ ap (λ t. eqb (cond t 1 (bit_of old k)) 1) (past_run run k past) ∙ sym (flag_of old n k within)
            ∙ sym (free_with_other flags (run_blocks run) k (uses_outside run k (inr past)))
      ]
    ])

-- A map with a run taken and with a run given back.
module _ (words groups new new_groups : List ℕ) (n free first : ℕ) (run : Run) (m : IsMap words groups n free first)
    (long : length new ≡ length words) (long_groups : length new_groups ≡ length groups) (second : IsSecondLevel new_groups new) (fits : run.start + run.count ≤ n) where
  none_past_still : (value : ℕ) → AreWritten words run value new → (k : ℕ) → n ≤ k → bit_of new k ≡ 0
  none_past_still value written k past = written k ∙ ap (λ t. cond t value (bit_of words k)) (past_run run k (omega arith)) ∙ m.none_past k past

  pub map_without : AreWritten words run 0 new → AllFree (flags_of words n) run → IsMap new new_groups n (free - run.count) first
  map_without written all =
      let is = without_written words new n run written in
      record {
        limit = m.limit;
        enough = omega (arith, m.enough);
        no_more = omega (arith, m.no_more);
        none_past = none_past_still 0 written;
        groups_enough = omega (arith, m.groups_enough);
        groups_no_more = omega (arith, m.groups_no_more);
        second = second;
        counted = omega (arith, ap free_count is, count_without (flags_of words n) run.start run.count (omega (arith, length_flags_of words n)) all, m.counted);
        within = omega (arith, m.within);
        none_before = λ k before. ap (λ f. is_free f k) is ∙ free_without (flags_of words n) run k ∙ rw (m.none_before k before) refl;
      }

  pub map_with : AreWritten words run 1 new → AllUsed (flags_of words n) run → (lower : ℕ) → lower ≡ min first (run.start / 4096) → IsMap new new_groups n (free + run.count) lower
  map_with written none lower is_lower =
      let is = with_written words new n run written in
      record {
        limit = m.limit;
        enough = omega (arith, m.enough);
        no_more = omega (arith, m.no_more);
        none_past = none_past_still 1 written;
        groups_enough = omega (arith, m.groups_enough);
        groups_no_more = omega (arith, m.groups_no_more);
        second = second;
        counted = omega (arith, ap free_count is, count_with_run (flags_of words n) run (omega (arith, length_flags_of words n)) none, m.counted);
        within = omega (arith, m.within);
        none_before = λ k before. ap (λ f. is_free f k) is ∙ free_with_other (flags_of words n) (run_blocks run) k (uses_outside run k (inl (omega arith))) ∙ m.none_before k (omega arith);
      }

-- A run of a map with these flags.
module _ (words groups : List ℕ) (n free first : ℕ) (m : IsMap words groups n free first) (flags : List Bool) (view : flags_of words n ≡ flags) (run : Run) (fits : run.start + run.count ≤ length flags) where
  pub run_below : run.start + run.count ≤ n
  run_below = omega (arith, ap length view, length_flags_of words n)

  pub run_fits : run.start + run.count ≤ 16777216
  run_fits = omega (arith, run_below, m.limit)

  all_free_here : AllFree flags run → AllFree (flags_of words n) run
  all_free_here all k from below = ap (λ f. is_free f k) view ∙ all k from below

  all_used_here : AllUsed flags run → AllUsed (flags_of words n) run
  all_used_here none k from below = ap (λ f. is_free f k) view ∙ none k from below

  pub run_counted : AllFree flags run → run.count ≤ free
  run_counted all = omega (arith, m.counted, count_without (flags_of words n) run.start run.count (omega (arith, run_below, length_flags_of words n)) (all_free_here all))

  pub more_counted : AllUsed flags run → free + run.count ≤ 16777216
  more_counted none =
      omega (
        arith,
        m.counted,
        m.limit,
        count_with_run (flags_of words n) run (omega (arith, run_below, length_flags_of words n)) (all_used_here none),
        count_no_more (with_blocks (flags_of words n) (run_blocks run)),
        length_with (flags_of words n) (run_blocks run),
        length_flags_of words n,
      )

  pub run_in_words : (lent : List ℕ) → lent ≡ words → run.start + run.count ≤ 64 * length lent
  run_in_words lent same = omega (arith, run_below, m.enough, ap length same)

  -- Both levels are lent, changed and put back.
  module _ (lent lent_groups new new_groups put put_groups : List ℕ) (same : lent ≡ words) (same_groups : lent_groups ≡ groups)
      (long : length new ≡ length lent) (long_groups : length new_groups ≡ length lent_groups) (is : put ≡ new) (is_groups : put_groups ≡ new_groups) where
    put_long : length put ≡ length words
    put_long = ap length is ∙ long ∙ ap length same

    put_groups_long : length put_groups ≡ length groups
    put_groups_long = ap length is_groups ∙ long_groups ∙ ap length same_groups

    put_written : (value : ℕ) → AreWritten lent run value new → AreWritten words run value put
    put_written value written k =
        ap (λ ws. bit_of ws k) is ∙ written k ∙ ap (λ ws. cond (is_within run k) value (bit_of ws k)) same

    put_second : IsSecondLevel new_groups new → IsSecondLevel put_groups put
    put_second second place = ap (λ gs. bit_of gs place) is_groups ∙ second place ∙ ap (λ ws. one_if (ltb 0 (get_or ws place 0))) (sym is)

    pub view_without : AreWritten lent run 0 new → flags_of put n ≡ without flags run
    view_without written = without_written words put n run (put_written 0 written) ∙ ap (λ f. without f run) view

    pub view_with : AreWritten lent run 1 new → flags_of put n ≡ with_blocks flags (run_blocks run)
    view_with written = with_written words put n run (put_written 1 written) ∙ ap (λ f. with_blocks f (run_blocks run)) view

    pub is_map_without : IsSecondLevel new_groups new → AreWritten lent run 0 new → AllFree flags run → IsMap put put_groups n (free - run.count) first
    is_map_without second written all =
        map_without words groups put put_groups n free first run m put_long put_groups_long (put_second second) run_below (put_written 0 written) (all_free_here all)

    pub is_map_with : IsSecondLevel new_groups new → AreWritten lent run 1 new → AllUsed flags run → (lower : ℕ) → lower ≡ min first (run.start / 4096) → IsMap put put_groups n (free + run.count) lower
    is_map_with second written none =
        map_with words groups put put_groups n free first run m put_long put_groups_long (put_second second) run_below (put_written 1 written) (all_used_here none)

-- The search for the lowest free block.
module _ (words groups : List ℕ) (n free first : ℕ) (m : IsMap words groups n free first) where
  -- what a bit of the second level tells
  word_none : (j : ℕ) → bit_of groups j ≡ 0 → get_or words j 0 ≡ 0
  word_none j zero_bit =
      elim (cases_lt 0 (get_or words j 0)) as (λ _. get_or words j 0 ≡ 0) [
        | inl some ↦ (let one : one_if (ltb 0 (get_or words j 0)) ≡ 1 = ap one_if (lt-ltb 0 (get_or words j 0) some) in
            absurd (omega (arith, one, zero_bit, m.second j)))
        | inr none ↦ omega arith
      ]

  word_some : (j : ℕ) → bit_of groups j ≡ 1 → 0 < get_or words j 0
  word_some j one_bit =
      elim (cases_lt 0 (get_or words j 0)) as (λ _. 0 < get_or words j 0) [
        | inl some ↦ some
        | inr none ↦ (
            let e : get_or words j 0 ≡ 0 = omega arith in
            let zero_bit : one_if (ltb 0 (get_or words j 0)) ≡ 0 = ap (λ w. one_if (ltb 0 w)) e in
            absurd (omega (arith, one_bit, zero_bit, m.second j)))
      ]

  group_none : (k : ℕ) → bit_of groups (k / 64) ≡ 0 → is_free (flags_of words n) k ≡ false
  group_none k zero_bit = zero_flag words n k (ap (λ w. bit_at w (k % 64)) (word_none (k / 64) zero_bit) ∙ bit_at-zero (k % 64))

  module _ (place : ℕ) (found : IsFirstNotZero groups first place) where
    -- none is free in the groups that it passed
    skipped : (k : ℕ) → k < 4096 * place → is_free (flags_of words n) k ≡ false
    skipped k before =
        elim (cases_lt k (4096 * first)) as (λ _. is_free (flags_of words n) k ≡ false) [
          | inl known ↦ m.none_before k known
          | inr later ↦ group_none k (ap (λ w. bit_at w (k / 64 % 64)) (found.zeros (k / 64 / 64) (omega arith) (omega arith)) ∙ bit_at-zero (k / 64 % 64))
        ]

    pub moved_on : IsMap words groups n free place
    moved_on = record {
      limit = m.limit;
      enough = m.enough;
      no_more = m.no_more;
      none_past = m.none_past;
      groups_enough = m.groups_enough;
      groups_no_more = m.groups_no_more;
      second = m.second;
      counted = m.counted;
      within = found.within;
      none_before = skipped;
    }

    pub none_at_all : place ≡ length groups → NoneFree (flags_of words n)
    none_at_all end k =
        elim (cases_lt k n) as (λ _. is_free (flags_of words n) k ≡ false) [
          | inl below ↦ skipped k (omega (arith, m.enough, m.groups_enough))
          | inr past ↦ flag_past (flags_of words n) k (omega (arith, length_flags_of words n))
        ]

    -- The group there, and the first word that it tells to have a free block.
    module _ (group : ℕ) (within : place < length groups) (is : group ≡ get_or groups place 0) (fits : group < 2 ^ 64) where
      group_some : 0 < group
      group_some = omega (arith, is, found.not_zero within)

      abbrev word_place : ℕ
      word_place = place * 64 + trailing_zeros w64 group

      there_is_a_word : 0 < get_or words word_place 0
      there_is_a_word = word_some word_place (lowest_set groups place group is group_some fits)

      pub place_fits : word_place < 262145
      place_fits = omega (arith, m.limit, m.no_more, m.groups_no_more, lowest_short groups place group is group_some fits)

      pub word_within : word_place < length words
      word_within =
          elim (cases_lt word_place (length words)) as (λ _. word_place < length words) [
            | inl below ↦ below
            | inr past ↦ absurd (omega (arith, there_is_a_word, get_or_past words word_place 0 past))
          ]

      none_before_word : (k : ℕ) → k < 64 * word_place → is_free (flags_of words n) k ≡ false
      none_before_word k before =
          elim (cases_lt k (4096 * place)) as (λ _. is_free (flags_of words n) k ≡ false) [
            | inl passed ↦ skipped k passed
            | inr from ↦ group_none k (none_lower groups place group is group_some fits (k / 64) (omega arith) (omega arith))
          ]

      module _ (word : ℕ) (is_word : word ≡ get_or words word_place 0) (fits_word : word < 2 ^ 64) where
        some_word : 0 < word
        some_word = omega (arith, is_word, there_is_a_word)

        abbrev block : ℕ
        block = word_place * 64 + trailing_zeros w64 word

        bit_is_set : bit_of words block ≡ 1
        bit_is_set = lowest_set words word_place word is_word some_word fits_word

        pub block_within : block < n
        block_within =
            elim (cases_lt block n) as (λ _. block < n) [
              | inl below ↦ below
              | inr past ↦ absurd (omega (arith, bit_is_set, m.none_past block past))
            ]

        pub lowest_is_free : is_free (flags_of words n) block ≡ true
        lowest_is_free = flag_of words n block block_within ∙ ap (λ v. eqb v 1) bit_is_set

        pub none_below : (k : ℕ) → k < block → is_free (flags_of words n) k ≡ false
        none_below k lower =
            elim (cases_lt k (64 * word_place)) as (λ _. is_free (flags_of words n) k ≡ false) [
              | inl before ↦ none_before_word k before
              | inr from ↦ zero_flag words n k (none_lower words word_place word is_word some_word fits_word k from lower)
            ]

-- A stretch of a map is what of a run is free at its start.
pub stretch_is : (words : List ℕ) (n start want most count : ℕ) (flags : List Bool) → flags_of words n ≡ flags → start ≤ n → most ≡ min want (n - start) → IsFreeStart words (run_of start most) count → IsStretch flags start want count
stretch_is words n start want most count flags view before is_most found =
    record {
      at_most = omega (arith, found.at_most);
      free = λ k from below. sym (ap (λ f. is_free f k) view) ∙ flag_of words n k (omega (arith, found.at_most)) ∙ ap (λ v. eqb v 1) (found.free k from below);
      longest = ⊎_elim (λ all. elim (cases_lt (n - start) want) as (λ _. (count ≡ want) ⊎ (is_free flags (start + count) ≡ false)) [
        | inl cut ↦ inr (flag_past flags (start + count) (omega (arith, ap length view, length_flags_of words n)))
        | inr whole ↦ inl (omega arith)
      ])
          (λ end. inr (sym (ap (λ f. is_free f (start + count)) view) ∙ zero_flag words n (start + count) end)) found.longest;
    }

-- No block free, from which a new map is made.

abbrev zeros : ℕ → List ℕ
zeros m = replicate m 0

no_word : (m j : ℕ) → get_or (zeros m) j 0 ≡ 0
no_word m j =
    let none : ℕ = 0 in
    elim (cases_lt j m) as (λ _. get_or (zeros m) j 0 ≡ none) [
      | inl below ↦ get_or-replicate m j none none below
      | inr past ↦ get_or_past (zeros m) j none (omega (arith, length-replicate m none))
    ]

no_bit : (words : List ℕ) (m k : ℕ) → words ≡ zeros m → bit_of words k ≡ 0
no_bit words m k is = ap (λ ws. bit_of ws k) is ∙ ap (λ w. bit_at w (k % 64)) (no_word m (k / 64)) ∙ bit_at-zero (k % 64)

pub none_free : (words : List ℕ) (m n : ℕ) → words ≡ zeros m → NoneFree (flags_of words n)
none_free words m n is k = zero_flag words n k (no_bit words m k is)

none_counted : (words : List ℕ) (m n : ℕ) → words ≡ zeros m → free_count (flags_of words n) ≡ 0
none_counted words m n is =
    let same : flags_of words n ≡ replicate n false =
    same_flags (flags_of words n) (replicate n false) (length_flags_of words n ∙ sym (length-replicate n false)) (λ k below.
    none_free words m n is k ∙ sym (get_or-replicate n k false false (omega (arith, length_flags_of words n)))) in
    ap free_count same ∙ sum_by-replicate (λ (t : Bool). one_if t) n false ∙ omega arith

pub map_at_start : (words groups : List ℕ) (m g n : ℕ) → words ≡ zeros m → groups ≡ zeros g → m ≡ (n + 63) / 64 → g ≡ (m + 63) / 64 → n ≤ 16777216 → IsMap words groups n 0 0
map_at_start words groups m g n is is_groups size group_size limit =
    let none : ℕ = 0 in
    let long : length words ≡ m = ap length is ∙ length-replicate m none in
    let groups_long : length groups ≡ g = ap length is_groups ∙ length-replicate g none in
    record {
      limit = limit;
      enough = omega arith;
      no_more = omega arith;
      none_past = λ k _. no_bit words m k is;
      groups_enough = omega arith;
      groups_no_more = omega arith;
      second = λ place. no_bit groups g place is_groups ∙ sym (ap (λ w. one_if (ltb 0 w)) (ap (λ ws. get_or ws place 0) is ∙ no_word m place));
      counted = sym (none_counted words m n is);
      within = omega arith;
      none_before = λ k before. absurd (omega arith);
    }

-- all blocks freed at once
pub all_freed : (flags : List Bool) (n : ℕ) → length flags ≡ n → with_blocks flags (run_blocks (run_of 0 n)) ≡ replicate n true
all_freed flags n long =
    let all : List Bool = with_blocks flags (run_blocks (run_of 0 n)) in
    let longer : length all ≡ n = length_with flags (run_blocks (run_of 0 n)) ∙ long in
    same_flags all (replicate n true) (longer ∙ sym (length-replicate n true)) (λ k below.
    free_with_these flags (run_blocks (run_of 0 n)) k (omega arith) (omega (arith, uses_inside (run_of 0 n) k (omega arith) (omega arith)))
    ∙ sym (all_free n k (omega arith)))
