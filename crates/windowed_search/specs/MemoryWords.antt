-- The state of a search of a memory.
use Rattle.std.specs.Prelude.{◌≡◌, ℕ, ◌+◌, List, ◌++◌, filter, length}
use Rattle.std.specs.List.{range_with_len}
use Rattle.address_space.specs.Occurrence.{occurs}
use Rattle.address_space.specs.Source.{Space}
use Rattle.windowed_search.specs.Places.{places}
use Rattle.windowed_search.specs.Runs.{values_from}
use Rattle.windowed_search.specs.SearchWords.{WasFed}
use Rattle.windowed_search.specs.declared.memory_search.MemorySearch.{MemorySearch}

abbrev pub needle_of : MemorySearch → List ℕ
needle_of m = m.search.needle.now

-- the next address
abbrev pub address_of : MemorySearch → ℕ
address_of m = m.address

-- The search was given all addresses below the next. The last of them, from `base` on, have values in a row, which it was fed; of those
-- before, it has found each at which the needle occurs.
pub record HasSearched (space : Space) (m : MemorySearch) : Type 0 where
  pub base : ℕ
  pub run : List ℕ
  pub joined : base + length run ≡ m.address
  pub values : values_from space base (length run) ≡ run
  pub fed : WasFed m.search base run
  pub told : m.found.items ≡ filter (occurs space (needle_of m)) (range_with_len 0 base) ++ places (needle_of m) base run
