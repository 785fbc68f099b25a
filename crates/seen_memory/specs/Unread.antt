-- No answer replaces a byte that is not at hand by an invented one, as a statement.
use Rattle.std.specs.Prelude.{◌≢◌, ◌<◌, ℕ, List, Option, slice_index, Ok}
use Rattle.address_space.specs.Source.{Space}
use Rattle.seen_memory.specs.Seen.{ForEach, IsImageOf, IsUnread, space_by}
use Rattle.seen_memory.specs.declared.memory.SeenMemory.{SeenMemory}

-- the answer about a memory depends on the byte at a place of its image
abbrev pub DependsOn : SeenMemory → (Space → Option ℕ) → ℕ → Type 0
DependsOn m told place =
    (b c : List ℕ) → IsImageOf m b → IsImageOf m c → slice_index b place ≢ slice_index c place → told (space_by m b) ≢ told (space_by m c)

-- if that byte is not at hand, no answer is one for each image that the memory can be of
abbrev pub UnreadBytesAreNotTold : Type 0
UnreadBytesAreNotTold =
    (m : SeenMemory) (told : Space → Option ℕ) (place : ℕ) (image : List ℕ) (x : Option ℕ) → IsImageOf m image → place < m.size
    → IsUnread m.front.now m.parts.now place → DependsOn m told place → ForEach m told (Ok x) → ⊥
