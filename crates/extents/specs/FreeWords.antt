-- A set of free blocks in words of 64 bits, with a second level that shows which words have a bit.
use Rattle.std.specs.Prelude.{◌≡◌, ◌⊎◌, ℕ, ◌+◌, ◌*◌, ◌/◌, ◌%◌, ◌<◌, ◌≤◌, Bool, false, cond, List, length, slice_index, nat_eq, nat_lt}
use Rattle.std.specs.Int.{bit_at}
use Rattle.extents.specs.declared.run_list.Run.{Run}
use Rattle.extents.specs.FreeSet.{is_free, free_count, flags_by, is_within, one_if}

-- the bit of block k; past the last word none is set
abbrev pub bit_of : List ℕ → ℕ → ℕ
bit_of words k = bit_at (slice_index words (k / 64)) (k % 64)

-- the flags of the first n blocks
unfoldable pub flags_of : List ℕ → ℕ → List Bool
flags_of words n = flags_by n (λ k. nat_eq (bit_of words k) 1)

-- The second level: one bit for each word, and no other, set if and only if the word has a bit that is set.
abbrev pub IsSecondLevel : List ℕ → List ℕ → Type 0
IsSecondLevel groups words = (place : ℕ) → bit_of groups place ≡ one_if (nat_lt 0 (slice_index words place))

-- The invariants of each map: the words are as many as n blocks need, and no bit is set past the last block; the second level shows exactly
-- which of them have a free block; the free blocks are counted, and none of them lies in the words of the first groups.
pub record IsMap (words groups : List ℕ) (n free first : ℕ) : Type 0 where
  pub limit : n ≤ 16777216
  pub enough : n ≤ 64 * length words
  pub no_more : 64 * length words < n + 64
  pub none_past : (k : ℕ) → n ≤ k → bit_of words k ≡ 0
  pub groups_enough : length words ≤ 64 * length groups
  pub groups_no_more : 64 * length groups < length words + 64
  pub second : IsSecondLevel groups words
  pub counted : free ≡ free_count (flags_of words n)
  pub within : first ≤ length groups
  pub none_before : (k : ℕ) → k < 4096 * first → is_free (flags_of words n) k ≡ false

-- The place of the first word from place `from` on that is not 0, or the number of words.
pub record IsFirstNotZero (words : List ℕ) (from place : ℕ) : Type 0 where
  pub later : from ≤ place
  pub within : place ≤ length words
  pub zeros : (k : ℕ) → from ≤ k → k < place → slice_index words k ≡ 0
  pub not_zero : place < length words → 0 < slice_index words place

-- The bits of the first `count` blocks of a run are set, and the one after them is not, or the run ends there.
pub record IsFreeStart (words : List ℕ) (run : Run) (count : ℕ) : Type 0 where
  pub at_most : count ≤ run.count
  pub free : (k : ℕ) → run.start ≤ k → k < run.start + count → bit_of words k ≡ 1
  pub longest : (count ≡ run.count) ⊎ (bit_of words (run.start + count) ≡ 0)

-- each bit of a run has this value, and every other bit is as it was
abbrev pub AreWritten : List ℕ → Run → ℕ → List ℕ → Type 0
AreWritten old run value new = (k : ℕ) → bit_of new k ≡ cond (is_within run k) value (bit_of old k)
