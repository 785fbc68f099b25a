-- The meaning of the code's `Stretch`.
use Rattle.std.specs.Prelude.{◌≡◌, ◌≤◌, ℕ, ◌+◌, ◌-◌, List, ⊤}
use Rattle.std.specs.Option.{option_map}
use Rattle.elf_view.specs.Field.{part}
use Rattle.elf_view.specs.Header.{SegmentView}
use Rattle.address_space.specs.Source.{Content, held, from_file, not_dumped, cut, unmapped}
use Rattle.address_space.specs.Pieces.{PieceView}
use Rattle.address_space.specs.SourceWords.{spot_view}
use Rattle.address_space.specs.declared.source.StretchKind as kinds
use Rattle.address_space.specs.declared.source.StretchKind.TheVariants as kind
use Rattle.address_space.specs.declared.source.Stretch.{Stretch}

-- the content of n addresses, for an image that has their bytes
abbrev pub shown_in : List ℕ → ℕ → kinds.StretchKind → Content (List ℕ)
shown_in image n (kind.Core offset) = held (part image offset n)
shown_in image n (kind.FromFile bytes) = from_file bytes.now
shown_in image n (kind.NotDumped spot) = not_dumped (option_map spot_view spot)
shown_in image n kind.Cut = cut
shown_in image n kind.Unmapped = unmapped

-- the piece of an image at the place of a `Stretch`
abbrev pub piece_in : List ℕ → Stretch → PieceView
piece_in image s = record { first = s.first; length = s.length; content = shown_in image s.length s.kind }

-- the bytes of n addresses that the image has are from place `start` on and before place `past`
abbrev pub IsWithin : ℕ → ℕ → ℕ → kinds.StretchKind → Type 0
IsWithin start past n (kind.Core offset) = (start ≤ offset) × (offset + n ≤ past)
IsWithin start past n (kind.FromFile bytes) = ⊤
IsWithin start past n (kind.NotDumped spot) = ⊤
IsWithin start past n kind.Cut = ⊤
IsWithin start past n kind.Unmapped = ⊤

-- the bytes of n addresses from a on that an image of that size has are those of the program header
abbrev pub IsFrom : ℕ → SegmentView → ℕ → ℕ → kinds.StretchKind → Type 0
IsFrom size s a n (kind.Core offset) = (offset ≡ s.offset + (a - s.vaddr)) × (a - s.vaddr + n ≤ s.filesz) × (offset + n ≤ size)
IsFrom size s a n (kind.FromFile bytes) = ⊤
IsFrom size s a n (kind.NotDumped spot) = ⊤
IsFrom size s a n kind.Cut = ⊤
IsFrom size s a n kind.Unmapped = ⊤
