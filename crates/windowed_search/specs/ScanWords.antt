-- The aim of a search of a memory, and its result.
use Rattle.std.specs.Prelude.{◌≡◌, ◌<◌, ℕ, List, filter, length}
use Rattle.std.specs.List.{range_with_len}
use Rattle.address_space.specs.Occurrence.{occurs}
use Rattle.address_space.specs.Source.{Space}
use Rattle.windowed_search.specs.MemoryWords.{HasSearched, needle_of, address_of}
use Rattle.windowed_search.specs.TextWords.{AreTexts, HasTexts}
use Rattle.windowed_search.specs.declared.memory_scan.Found.{Found}
use Rattle.windowed_search.specs.declared.memory_scan.Found.TheVariants as found
use Rattle.windowed_search.specs.declared.memory_scan.MemoryScan.{MemoryScan}
use Rattle.windowed_search.specs.declared.memory_scan.MemoryScan.TheVariants as scan
use Rattle.windowed_search.specs.declared.memory_scan.Sought.{Sought}
use Rattle.windowed_search.specs.declared.memory_scan.Sought.TheVariants as sought

-- a needle, or texts of at least that length
pub data Aim : Type 0 where
  for_bytes : List ℕ → Aim
  for_texts : ℕ → Aim

abbrev pub aim_of : Sought → Aim
aim_of (sought.Bytes bytes) = for_bytes bytes.now
aim_of (sought.Texts least) = for_texts least

-- the aim is not empty
abbrev pub IsAim : Aim → Type 0
IsAim (for_bytes bytes) = 0 < length bytes
IsAim (for_texts least) = 0 < least

-- the aim of a search
abbrev pub aimed_at : MemoryScan → Aim
aimed_at (scan.Bytes m) = for_bytes (needle_of m)
aimed_at (scan.Texts m) = for_texts m.least

-- the next address
abbrev pub next_address : MemoryScan → ℕ
next_address (scan.Bytes m) = address_of m
next_address (scan.Texts m) = m.address

-- it was given all addresses below the next
abbrev pub HasScanned : Space → MemoryScan → Type 0
HasScanned space (scan.Bytes m) = HasSearched space m
HasScanned space (scan.Texts m) = HasTexts space m

-- all matches of the aim that start before an address
abbrev pub IsFound : Space → Aim → ℕ → Found → Type 0
IsFound space (for_bytes bytes) past (found.Addresses v) = v.items ≡ filter (occurs space bytes) (range_with_len 0 past)
IsFound space (for_texts least) past (found.Texts t) = AreTexts space least past t
IsFound space aim past f = ⊥
