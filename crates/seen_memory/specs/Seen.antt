-- The memories that are possible if only some bytes of the core's image are at hand.
use Rattle.std.specs.Prelude.{◌≡◌, ◌≤◌, ◌<◌, ℕ, List, length, slice_index, Result, Ok, Err}
use Rattle.address_space.specs.Source.{Space}
use Rattle.address_space.specs.SpaceWords.{space_of}
use Rattle.address_space.specs.Whole.{IsFrontOf, space_in}
use Rattle.seen_memory.specs.Parts.{HasParts, IsBeside}
use Rattle.seen_memory.specs.declared.memory.SeenMemory.{SeenMemory}
use Rattle.seen_memory.specs.declared.memory.Unread.{Unread}
use Rattle.seen_memory.specs.declared.part.Part.{Part}

-- An image has that size, begins with these bytes and has these parts.
pub record IsImageBy (front : List ℕ) (size : ℕ) (parts : List Part) (image : List ℕ) : Type 0 where
  pub begins : IsFrontOf front size image
  pub has : HasParts image parts

abbrev pub IsImageOf : SeenMemory → List ℕ → Type 0
IsImageOf m image = IsImageBy m.front.now m.size m.parts.now image

-- the memory, if it is that of this image
abbrev pub space_by : SeenMemory → List ℕ → Space
space_by m image = space_in image (space_of m.space.now)

-- A byte is neither among the first nor in a part.
abbrev pub IsUnread : List ℕ → List Part → ℕ → Type 0
IsUnread front parts place = (length front ≤ place) × IsBeside place parts

-- The byte is one of the image and not at hand.
pub record IsWantedBy (front : List ℕ) (size : ℕ) (parts : List Part) (u : Unread) : Type 0 where
  pub unread : IsUnread front parts u.place
  pub within : (image : List ℕ) → IsImageBy front size parts image → u.place < size

abbrev pub IsWanted : SeenMemory → Unread → Type 0
IsWanted m u = IsWantedBy m.front.now m.size m.parts.now u

-- the answer holds in each memory that this one can be
abbrev pub InEach : {A : Type 0} → SeenMemory → (Space → A) → A → Type 0
InEach m told x = (image : List ℕ) → IsImageOf m image → x ≡ told (space_by m image)

-- so it is; or a byte is wanted
abbrev pub ForEach : {A : Type 0} → SeenMemory → (Space → A) → Result A Unread → Type 0
ForEach m told (Ok x) = InEach m told x
ForEach m told (Err u) = IsWanted m u

-- the byte of the image at a place, or it is not at hand
abbrev pub ReadsByte : SeenMemory → ℕ → Result ℕ Unread → Type 0
ReadsByte m place (Ok x) = (image : List ℕ) → IsImageOf m image → x ≡ slice_index image place
ReadsByte m place (Err u) = (u.place ≡ place) × IsUnread m.front.now m.parts.now place
