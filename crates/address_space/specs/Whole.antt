-- The image of which a space has the first bytes, and the places in it of the bytes of addresses.
use Rattle.std.specs.Prelude.{◌≡◌, ◌<◌, ◌≤◌, ℕ, ◌+◌, ◌-◌, true, List, length, take}
use Rattle.std.specs.List.{AllByRecursion}
use Rattle.elf_view.specs.Field.{part}
use Rattle.elf_view.specs.Header.{SegmentView, segments_of}
use Rattle.address_space.specs.Source.{Space, is_covering}

-- an image of that size, of which these are the first bytes
abbrev pub IsFrontOf : List ℕ → ℕ → List ℕ → Type 0
IsFrontOf front size image = (length image ≡ size) × (front ≡ take (length front) image)

-- a program header with the part of its file range that lies in the image
abbrev pub filled : List ℕ → SegmentView → SegmentView
filled image s = record s { bytes = part image s.offset s.filesz }

-- the space of that image, with the same mapped files and executables
abbrev pub space_in : List ℕ → Space → Space
space_in image space = record space { segments = segments_of image }

-- The bytes that an image of that size has for n addresses from `first` on, in the
-- file range of a program header, lie from place `start` on and before place `past`.
abbrev pub IsHeldWithin : ℕ → ℕ → ℕ → ℕ → ℕ → SegmentView → Type 0
IsHeldWithin size first n start past s =
    (a : ℕ) → first ≤ a → a < first + n → is_covering a s ≡ true → a - s.vaddr < s.filesz → s.offset + (a - s.vaddr) < size
    → (start ≤ s.offset + (a - s.vaddr)) × (s.offset + (a - s.vaddr) < past)

-- so for each program header
abbrev pub AreHeldWithin : ℕ → ℕ → ℕ → ℕ → ℕ → List SegmentView → Type 0
AreHeldWithin size first n start past segments = AllByRecursion (IsHeldWithin size first n start past) segments
