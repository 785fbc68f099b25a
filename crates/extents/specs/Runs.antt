-- Run lists: a run is a sequence of adjoining blocks, and a run list is seen as the list of its blocks.
use Rattle.std.specs.Prelude.{◌≢◌, ◌≤◌, ◌+◌, ℕ, List, [], ◌∷◌, ◌++◌, if◌then◌else◌, ◌==◌}
use Rattle.std.specs.List.{range_with_len}
use Rattle.extents.specs.declared.run_list.Run.{Run}

-- the blocks of a run, in order
abbrev pub run_blocks : Run → List ℕ
run_blocks r = range_with_len r.start r.count

-- the blocks of a list of runs, one run after another
abbrev pub blocks_of : List Run → List ℕ
blocks_of [] = []
blocks_of (r ∷ rest) = run_blocks r ++ blocks_of rest

-- a block before a list of runs: it joins the first one if it is right before it
abbrev pub with_first : ℕ → List Run → List Run
with_first b [] = record { start = b; count = 1 } ∷ []
with_first b (r ∷ rest) =
    if b + 1 == r.start
    then record { start = b; count = r.count + 1 } ∷ rest
    else record { start = b; count = 1 } ∷ r ∷ rest

-- the shortest list of runs with these blocks
abbrev pub runs_of : List ℕ → List Run
runs_of [] = []
runs_of (b ∷ rest) = with_first b (runs_of rest)

-- a run of at least one block, all of them below 16,777,216
pub record IsRun (r : Run) : Type 0 where
  pub some : 1 ≤ r.count
  pub within : r.start + r.count ≤ 16777216

-- runs after r of which none begins where the one before it ends
abbrev pub AreApartFrom : Run → List Run → Type 0
AreApartFrom r [] = IsRun r
AreApartFrom r (s ∷ rest) = IsRun r × (r.start + r.count ≢ s.start) × AreApartFrom s rest

-- the same of a whole list
abbrev pub AreApart : List Run → Type 0
AreApart [] = Unit {0}
AreApart (r ∷ rest) = AreApartFrom r rest
