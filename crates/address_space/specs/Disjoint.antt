-- Whether program headers (System V gABI, "Program Header") or entries of NT_FILE (core(5)) share addresses, and those that
-- take any.
use Rattle.std.specs.Prelude.{ℕ, ◌+◌, ◌&&◌, nat_le, nat_lt, Bool, List, filter, AllPairs, IsTrue}
use Rattle.std.specs.List.{enumerate_from}
use Rattle.elf_view.specs.Header.{SegmentView}
use Rattle.core_notes.specs.FileList.{FileView}
use Rattle.address_space.specs.Source.{span, is_covering, is_mapping}

-- no address is in both
abbrev pub AreApart : {A : Type 0} → (ℕ → A → Bool) → A → A → Type 0
AreApart has x y = (a : ℕ) → IsTrue (has a x) → ¬ IsTrue (has a y)

-- The PT_LOADs are disjoint, the empty ones left out: no two program headers cover one address.
abbrev pub AreDisjoint : List SegmentView → Type 0
AreDisjoint segments = AllPairs (AreApart is_covering) segments

-- The entries of NT_FILE are disjoint, the empty ones left out: no two map one address.
abbrev pub AreFilesDisjoint : List FileView → Type 0
AreFilesDisjoint files = AllPairs (AreApart is_mapping) files

-- addresses in a row: the first, and the one after the last
pub record Extent : Type 0 where
  pub start : ℕ
  pub past : ℕ

abbrev pub is_within : ℕ → Extent → Bool
is_within a e = nat_le e.start a && nat_lt a e.past

-- the addresses that a program header takes
abbrev pub segment_extent : SegmentView → Extent
segment_extent s = record { start = s.vaddr; past = s.vaddr + span s }

-- those that an entry of NT_FILE maps
abbrev pub file_extent : FileView → Extent
file_extent f = record { start = f.start; past = f.past }

-- whether an extent, with its number, has addresses
abbrev pub takes_addresses : ℕ × Extent → Bool
takes_addresses d = nat_lt d.1.start d.1.past

-- those that do, with their numbers, if the first of these has number i
abbrev pub taking_from : ℕ → List Extent → List (ℕ × Extent)
taking_from i extents = filter takes_addresses (enumerate_from i extents)
