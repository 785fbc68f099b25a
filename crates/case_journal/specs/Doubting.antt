-- The bytes that a life of an archive may leave in doubt: bytes that reads give and that the device may not have.
use Rattle.std.specs.Prelude.{◌≡◌, ◌≢◌, ◌⊎◌, ℕ, ◌+◌, ◌<◌, List, length, slice_index, Option}
use Rattle.std.specs.List.{All, Contains}
use Rattle.disk_model.specs.declared.disk.Disk as disk
use Rattle.journal_layout.specs.declared.shape.Shape.{Shape}
use Rattle.journal_layout.specs.Layout.{half_start, half_length, data_start}
use Rattle.journal_layout.specs.Standing.{Standing}
use Rattle.journal_layout.specs.Stands.{Stands}
use Rattle.journal_layout.specs.Rewriting.{other_start}
use Rattle.case_journal.specs.Settling.{SameBut, HasLastGate, gate_behind, gates_of}

-- These bytes encode the archive, and no opening of them reads this place. It is after the gate that ends the records of the taken half,
-- or after the gate of the other half, which is not open.
abbrev pub IsUnread : List ℕ → Standing → ℕ → Type 0
IsUnread b s p =
    ((gate_behind s < p) × (p < half_start s.shape s.half + half_length s.shape))
    ⊎ ((slice_index b (other_start s) ≢ 165) × (other_start s < p) × (p < other_start s + half_length s.shape))

-- Up to the data blocks, c is b but at this place.
abbrev pub DiffersAlone : List ℕ → List ℕ → Standing → ℕ → Type 0
DiffersAlone b c s gate = (p : ℕ) → p < data_start s.shape → (p ≡ gate) ⊎ (slice_index c p ≡ slice_index b p)

-- Up to the data blocks, c is b except at places that no opening of b reads.
abbrev pub DiffersUnread : List ℕ → List ℕ → Standing → Type 0
DiffersUnread b c s = (p : ℕ) → p < data_start s.shape → IsUnread b s p ⊎ (slice_index c p ≡ slice_index b p)

-- One gate is in doubt, of those that a settling writes again, or bytes that no opening reads.
abbrev pub DiffersInDoubt : List ℕ → List ℕ → Standing → Option ℕ → Type 0
DiffersInDoubt b c s last = ((gate : ℕ) × Contains (gates_of s last) gate × DiffersAlone b c s gate) ⊎ DiffersUnread b c s

-- The bytes that reads give encode an archive of this shape, and those that a crash now may leave are the same except for bytes in doubt.
pub record DoubtsGates {D : Type 0} (g : disk.Ghosts D) (d : D) (shape : Shape) : Type 0 where
  pub standing : Standing
  pub same_shape : standing.shape ≡ shape
  pub stands : Stands (g.seen d) standing
  pub last : Option ℕ
  pub last_gate : HasLastGate (g.seen d) standing last
  pub differs : (c : List ℕ) → g.may_leave d c → DiffersInDoubt (g.seen d) c standing last

-- Settling is enough. Let reads give b while the device has c, which is b except for bytes in doubt.
-- Once the gates are written again as b has them, and nothing else, the device encodes the archive
-- that b encodes. The last gate is the one that a settling finds, whichever was meant before.
abbrev pub SettlingIsEnough : Type 0
SettlingIsEnough =
    (b c new : List ℕ) (s : Standing) (last found : Option ℕ) → Stands b s → HasLastGate b s last → HasLastGate b s found
    → length c ≡ length b → DiffersInDoubt b c s last
    → SameBut (gates_of s found) c new → All (λ (p : ℕ). slice_index new p ≡ slice_index b p) (gates_of s found) → Stands new s

-- A stop while a settling goes on leaves what one before it left, or what reads give: let the device have c, which stands for t, and let each byte
-- up to the data blocks be that of c or that of b, since a write of one byte leaves the old one or the new one.
abbrev pub AStopWhileSettlingIsOneBefore : Type 0
AStopWhileSettlingIsOneBefore =
    (b c left : List ℕ) (s t : Standing) (last : Option ℕ) → Stands b s → Stands c t → t.shape ≡ s.shape → length c ≡ length b → length left ≡ length b → DiffersInDoubt b c s last
    → ((p : ℕ) → p < data_start s.shape → (slice_index left p ≡ slice_index b p) ⊎ (slice_index left p ≡ slice_index c p))
    → Stands left s ⊎ Stands left t
