-- Values that the bytes of an image give, whatever files are mapped and whatever executables are attached.
use Rattle.std.specs.Prelude.{◌≡◌, ◌<◌, ℕ, ◌+◌, ◌-◌, List, None, Some, slice_index}
use Rattle.elf_view.specs.Header.{segments_of}
use Rattle.address_space.specs.Source.{Space, value_at}

-- The bytes of an image from place `start` on and before place `past` are the values of addresses in a row, from `first` on, in
-- each space of its segments.
abbrev pub AreValues : List ℕ → ℕ → ℕ → ℕ → Type 0
AreValues image first start past =
    (space : Space) → space.segments ≡ segments_of image → (k : ℕ) → k < past - start → value_at space (first + k) ≡ Some (slice_index image (start + k))

-- the address has no value in any space of its segments
abbrev pub HasNoValue : List ℕ → ℕ → Type 0
HasNoValue image a = (space : Space) → space.segments ≡ segments_of image → value_at space a ≡ None
