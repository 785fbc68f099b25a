-- The facts that the first bytes of a case's image give.
use Rattle.std.specs.Prelude.{◌≡◌, ◌≤◌, ◌⊎◌, ℕ, List, length, min, take, Option, Result}
use Rattle.disk_model.specs.declared.disk.Disk as disk
use Rattle.intake.specs.Parts.{Parts}
use Rattle.elf_view.specs.declared.faults.Want.{Want}
use Rattle.image_replies.specs.declared.core_image.CoreFault.{CoreFault}
use Rattle.image_replies.specs.declared.core_image.CoreImage.{CoreImage}
use Rattle.core_checks.specs.Whole.{whole_length}
use Rattle.core_checks.specs.Unread.{unread_notes}
use Rattle.core_checks.specs.declared.notes.UnreadNotes.{UnreadNotes}
use Rattle.case_queries.specs.Fronts.{IsSoundFront}
use Rattle.case_queries.specs.Seeing.{SeesImage}
use Rattle.case_screens.specs.Core.{notes_in, notes_read}

-- the first 65,536 bytes of an image, or all
unfoldable pub first_bytes : List ℕ → List ℕ
first_bytes image = take 65536 image

-- These are the first bytes of an image: 65,536 at least, or all; and all, or sound as an image of their own.
pub record IsFront (want : Want) (front image : List ℕ) : Type 0 where
  pub begins : front ≡ take (length front) image
  pub enough : (length front ≡ length image) ⊎ IsSoundFront want front
  pub first : min (length image) 65536 ≤ length front

-- the image of a case is seen by its first bytes
abbrev pub SeesFront : {D : Type 0} → disk.Ghosts D → Parts D → ℕ → Want → List ℕ → Parts D → Type 0
SeesFront g old seq want front new = (image : List ℕ) × SeesImage g old seq image new × IsFront want front image

-- The facts of a core are those that its image gives: its notes, or its first fault (core(5), System V gABI); and, by its first 65,536 bytes, how many
-- bytes it has if it is whole, and why some of its notes are not read as they are meant.
pub record SaysCore (image : List ℕ) (core : Result CoreImage CoreFault) (whole : Option ℕ) (unread : Option UnreadNotes) : Type 0 where
  pub notes_are : notes_read core ≡ notes_in image
  pub whole_is : whole ≡ whole_length (first_bytes image)
  pub unread_is : unread ≡ unread_notes (first_bytes image)
