-- The first bytes of an image, and a window of it: the bytes at hand of an image that is not read whole.
use Rattle.std.specs.Prelude.{◌≡◌, ℕ, ◌+◌, false, List, length}
use Rattle.elf_view.specs.Field.{part}
use Rattle.elf_view.specs.Header.{segments_of}
use Rattle.address_space.specs.Whole.{AreHeldWithin, IsFrontOf}
use Rattle.memory_replies.specs.Dump.{is_out_of_range}

-- these are bytes of the image, from a place on
abbrev pub IsPartOf : List ℕ → ℕ → List ℕ → Type 0
IsPartOf image at bytes = bytes ≡ part image at (length bytes)

-- the place after the last of them
abbrev pub past_of : ℕ → List ℕ → ℕ
past_of at bytes = at + length bytes

-- An image of that size begins with the bytes of `front`, and the bytes of a window of it, from place `at` on, are all that it has
-- for n addresses from `first` on.
pub record IsAtHand (front : List ℕ) (size at : ℕ) (bytes : List ℕ) (first n : ℕ) (image : List ℕ) : Type 0 where
  pub begins : IsFrontOf front size image
  pub has : IsPartOf image at bytes
  pub all : is_out_of_range first n ≡ false → AreHeldWithin size first n at (past_of at bytes) (segments_of front)
