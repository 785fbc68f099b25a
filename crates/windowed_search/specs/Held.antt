-- What decides an address, and the byte that it has in a core: the first segment that covers it, and a byte of that segment in the file
-- (System V gABI, "Program Header").
use Rattle.std.specs.Prelude.{◌≡◌, ◌-◌, ◌<◌, ℕ, Some, false, length, slice_get, slice_index}
use Rattle.elf_view.specs.Header.{SegmentView}
use Rattle.address_space.specs.Source.{Space, decider, held, is_covering, source_at}

-- the byte x of an address is one of those that its segment has in the file, and the file has not been cut before it
pub record IsInTheFile (space : Space) (a x : ℕ) : Type 0 where
  pub number : ℕ
  pub segment : SegmentView
  pub decides : decider space a ≡ Some (number, segment)
  pub stated : a - segment.vaddr < segment.filesz
  pub there : a - segment.vaddr < length segment.bytes
  pub byte : slice_index segment.bytes (a - segment.vaddr) ≡ x

abbrev pub HeldBytesAreInTheFile : Type 0
HeldBytesAreInTheFile = (space : Space) (a x : ℕ) → source_at space a ≡ held x → IsInTheFile space a x

-- no segment before the one that decides an address covers it
abbrev pub TheFirstDecides : Type 0
TheFirstDecides = (space : Space) (a : ℕ) (d : ℕ × SegmentView) → decider space a ≡ Some d
    → (k : ℕ) (s : SegmentView) → k < d.0 → slice_get space.segments k ≡ Some s → is_covering a s ≡ false
