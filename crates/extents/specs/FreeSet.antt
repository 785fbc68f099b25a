-- Sets of free blocks: one flag for each block, which is true if the block is free.
use Rattle.std.specs.Prelude.{◌≡◌, ◌⊎◌, ℕ, ◌+◌, ◌<◌, ◌≤◌, Bool, true, false, not, ◌&&◌, ◌||◌, cond, List, length, map, Result, Ok, Err, Option, Some, None, slice_index_or, nat_lt, nat_le, nat_eq}
use Rattle.std.specs.List.{range_with_len, count_by, All}
use Rattle.extents.specs.declared.run_list.Run.{Run}
use Rattle.extents.specs.declared.free_map.UseFault.{UseFault}
use Rattle.extents.specs.declared.free_map.UseFault.TheVariants.{OutOfRange, InUse}
use Rattle.extents.specs.Runs.{blocks_of}

-- whether block k is free; past the last block none is
abbrev pub is_free : List Bool → ℕ → Bool
is_free flags k = slice_index_or flags k false

-- how many blocks are free
abbrev pub free_count : List Bool → ℕ
free_count flags = count_by (λ free. free) flags

-- how often a list of blocks has block k
abbrev pub uses : List ℕ → ℕ → ℕ
uses blocks k = count_by (λ b. nat_eq b k) blocks

-- 1 if it holds, otherwise 0
abbrev pub one_if : Bool → ℕ
one_if t = cond t 1 0

-- whether block k is one of the run's
abbrev pub is_within : Run → ℕ → Bool
is_within run k = nat_le run.start k && nat_lt k (run.start + run.count)

-- the flags of the first n blocks, each as a test of its number says
unfoldable pub flags_by : ℕ → (ℕ → Bool) → List Bool
flags_by n test = map test (range_with_len 0 n)

-- the same blocks, with those of the run no longer free
unfoldable pub without : List Bool → Run → List Bool
without flags run = flags_by (length flags) (λ k. is_free flags k && not (is_within run k))

-- the same blocks, with these free as well
unfoldable pub with_blocks : List Bool → List ℕ → List Bool
with_blocks flags blocks = flags_by (length flags) (λ k. is_free flags k || nat_lt 0 (uses blocks k))

-- the same blocks, with those of the runs free as well
abbrev pub with_runs : List Bool → List Run → List Bool
with_runs flags runs = with_blocks flags (blocks_of runs)

-- each block of the run is free
abbrev pub AllFree : List Bool → Run → Type 0
AllFree flags run = (k : ℕ) → run.start ≤ k → k < run.start + run.count → is_free flags k ≡ true

-- no block of the run is free
abbrev pub AllUsed : List Bool → Run → Type 0
AllUsed flags run = (k : ℕ) → run.start ≤ k → k < run.start + run.count → is_free flags k ≡ false

-- Some block of the run is not free.
pub record HasUsed (flags : List Bool) (run : Run) : Type 0 where
  pub block : ℕ
  pub from : run.start ≤ block
  pub below : block < run.start + run.count
  pub used : is_free flags block ≡ false

-- no block is free
abbrev pub NoneFree : List Bool → Type 0
NoneFree flags = (k : ℕ) → is_free flags k ≡ false

-- The answer and the flags after marking a run as used, by cases on the answer.
abbrev pub Marks : List Bool → Run → Result (Unit {0}) UseFault → List Bool → Type 0
Marks old run (Ok _) new = (run.start + run.count ≤ length old) × AllFree old run × (new ≡ without old run)
Marks old run (Err OutOfRange) new = (length old < run.start + run.count) × (new ≡ old)
Marks old run (Err InUse) new = (run.start + run.count ≤ length old) × HasUsed old run × (new ≡ old)

-- The run is the longest sequence of free blocks from the lowest one on, at most `want` blocks, and it is free no longer.
pub record Takes (old : List Bool) (want : ℕ) (run : Run) (new : List Bool) : Type 0 where
  pub some : 1 ≤ run.count
  pub at_most : run.count ≤ want
  pub within : run.start + run.count ≤ length old
  pub lowest : (k : ℕ) → k < run.start → is_free old k ≡ false
  pub free : AllFree old run
  pub longest : (run.count ≡ want) ⊎ (is_free old (run.start + run.count) ≡ false)
  pub taken : new ≡ without old run

-- The answer and the flags after taking at most `want` blocks.
abbrev pub TakesOrNone : List Bool → ℕ → Option Run → List Bool → Type 0
TakesOrNone old want (Some run) new = Takes old want run new
TakesOrNone old want None new = NoneFree old × (new ≡ old)

-- Runs of blocks that are in use, each of them once.
pub record AreUsed (flags : List Bool) (runs : List Run) : Type 0 where
  pub some : All (λ run. 1 ≤ run.count) runs
  pub used : (k : ℕ) → 0 < uses (blocks_of runs) k → (k < length flags) × (is_free flags k ≡ false)
  pub different : (k : ℕ) → uses (blocks_of runs) k ≤ 1

-- The lowest free block.
abbrev pub IsLowest : List Bool → Option ℕ → Type 0
IsLowest flags (Some k) = (is_free flags k ≡ true) × ((j : ℕ) → j < k → is_free flags j ≡ false)
IsLowest flags None = NoneFree flags

-- The `count` blocks from `start` on are free without a gap, and no more follow, or `want` of them are enough.
pub record IsStretch (flags : List Bool) (start want count : ℕ) : Type 0 where
  pub at_most : count ≤ want
  pub free : AllFree flags (record { start = start; count = count })
  pub longest : (count ≡ want) ⊎ (is_free flags (start + count) ≡ false)
