-- The answers that hold in each memory that one can be.
use Rattle.std.proofs.Common.{◌≡◌, ℕ, List, Result, Ok, Err, ◌∙◌}
use Rattle.address_space.specs.Source.{Space}
use Rattle.seen_memory.specs.Seen.{ForEach, space_by}
use Rattle.seen_memory.specs.declared.memory.SeenMemory.{SeenMemory}
use Rattle.seen_memory.specs.declared.memory.Unread.{Unread}

-- the same in other words
pub each_as : {A : Type 0} → (m : SeenMemory) (f h : Space → A) (r : Result A Unread) → ((image : List ℕ) → f (space_by m image) ≡ h (space_by m image)) → ForEach m f r → ForEach m h r
each_as m f h (Ok x) same each = λ image is. each image is ∙ same image
each_as m f h (Err u) same each = each
