-- The meaning of the code's iterator `Stretches`.
use Rattle.std.specs.Prelude.{◌≡◌, ℕ, List, Option, IfSome}
use Rattle.std.specs.Iterator.{YieldsFirstBy}
use Rattle.elf_view.specs.Header.{segments_of}
use Rattle.elf_view.specs.ViewWords.{image_of}
use Rattle.address_space.specs.Source.{Space}
use Rattle.address_space.specs.Pieces.{PieceView, pieces_of}
use Rattle.address_space.specs.SpaceWords.{space_of}
use Rattle.address_space.specs.StretchWords.{IsWithin, piece_in}
use Rattle.address_space.specs.Whole.{AreHeldWithin, IsFrontOf, space_in}
use Rattle.address_space.specs.declared.source.Stretch.{Stretch}
use Rattle.address_space.specs.declared.stretches.Stretches.{Stretches}

-- the first bytes of the image, and its size
abbrev pub front_of : Stretches → List ℕ
front_of s = image_of s.space.now.elf

-- the pieces that an image shows of the addresses that are still to come
abbrev pub pieces_left_in : List ℕ → Stretches → List PieceView
pieces_left_in image s = pieces_of (space_in image (space_of s.space.now)) s.at s.left

-- the bytes that an image of that size has for the addresses that are still to come lie from place `start` on and before place `past`
abbrev pub AreLeftWithin : ℕ → ℕ → Stretches → Type 0
AreLeftWithin start past s = AreHeldWithin s.size s.at s.left start past (segments_of (front_of s))

-- n addresses from a on are to come, of an image of so many bytes which begins with these
pub record AreLeft (space : Space) (bytes : List ℕ) (count a n : ℕ) (s : Stretches) : Type 0 where
  pub front : front_of s ≡ bytes
  pub size : s.size ≡ count
  pub pieces : (image : List ℕ) → pieces_left_in image s ≡ pieces_of (space_in image space) a n
  pub within : (start past : ℕ) → AreHeldWithin count a n start past (segments_of bytes) → AreLeftWithin start past s

-- Each item is the next piece of any image of that size which starts with these bytes.
pub record StretchStep (s : Stretches) (r : Option Stretch) (t : Stretches) : Type 0 where
  pub front : front_of t ≡ front_of s
  pub size : t.size ≡ s.size
  pub pieces : (image : List ℕ) → IsFrontOf (front_of s) s.size image → YieldsFirstBy (piece_in image) (pieces_left_in image) s r t
  pub within : (start past : ℕ) → AreLeftWithin start past s → AreLeftWithin start past t
  pub held : (start past : ℕ) → AreLeftWithin start past s → IfSome r (λ x. IsWithin start past x.length x.kind)
