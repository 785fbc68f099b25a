-- Bytes of an image that are gathered from those at hand.
use Rattle.std.specs.Prelude.{◌≡◌, ◌≤◌, ◌<◌, ⊤, ℕ, ◌+◌, List, length, Result, Ok, Err}
use Rattle.std.specs.Borrow.{Bor}
use Rattle.seen_memory.specs.Parts.{IsPartOf}
use Rattle.seen_memory.specs.Seen.{IsImageBy, IsUnread}
use Rattle.seen_memory.specs.declared.gathered.GatherFault.{GatherFault}
use Rattle.seen_memory.specs.declared.gathered.GatherFault.TheVariants.{Unread, OutOfMemory}
use Rattle.seen_memory.specs.declared.part.Part.{Part}

-- bytes of each image that these are the first bytes and parts of, from that place on: at most so many
abbrev pub IsThere : List ℕ → List Part → ℕ → ℕ → Bor (List ℕ) → Type 0
IsThere front parts place most bytes =
    (0 < length bytes.now) × (length bytes.now ≤ most) × ((size : ℕ) (image : List ℕ) → IsImageBy front size parts image → IsPartOf image place bytes.now)

-- if the old bytes are bytes of each such image, the new bytes are too
abbrev pub StaysPart : List ℕ → List Part → ℕ → List ℕ → List ℕ → Type 0
StaysPart front parts start old new = (size : ℕ) (image : List ℕ) → IsImageBy front size parts image → IsPartOf image start old → IsPartOf image start new

-- some of the bytes are gathered; or the next one is not at hand
abbrev pub AddsBytes : List ℕ → List Part → ℕ → ℕ → List ℕ → Result (Unit {0}) GatherFault → List ℕ → Type 0
AddsBytes front parts start count old (Ok u) new = StaysPart front parts start old new × (length old < length new) × (length new ≤ count)
AddsBytes front parts start count old (Err (Unread u)) new = (new ≡ old) × IsUnread front parts u.place × (u.place < start + count)
AddsBytes front parts start count old (Err OutOfMemory) new = ⊤

-- all are; or one is not at hand
abbrev pub GathersBytes : List ℕ → List Part → ℕ → ℕ → List ℕ → Result (Unit {0}) GatherFault → List ℕ → Type 0
GathersBytes front parts start count old (Ok u) new = StaysPart front parts start old new × (length new ≡ count)
GathersBytes front parts start count old (Err (Unread u)) new = StaysPart front parts start old new × (length new < count) × IsUnread front parts u.place × (u.place < start + count)
GathersBytes front parts start count old (Err OutOfMemory) new = ⊤
