-- How an image grows by a block.
use Rattle.std.specs.Prelude.{◌≡◌, ◌≢◌, Bool, true, false, ◌⊎◌, ℕ, ◌+◌, ◌%◌, ◌<◌, ◌≤◌, List, [], ◌∷◌, ◌++◌, length, Some, Result, Ok, Err}
use Rattle.disk_model.specs.Places.{SameOutside}
use Rattle.extents.specs.FreeSet.{is_free, IsLowest}
use Rattle.journal_layout.specs.declared.shape.Shape.{Shape}
use Rattle.case_journal.specs.Journaled.{Journaled}
use Rattle.intake.specs.Step.{longer}
use Rattle.intake.specs.Blocks.{block_start, block_bytes}
use Rattle.intake.specs.Contents.{zero_block, advanced}
use Rattle.intake.specs.Parts.{StreamParts, taken_in}
use Rattle.intake.specs.declared.faults.ArchiveFault.{ArchiveFault}
use Rattle.intake.specs.declared.faults.ArchiveFault.TheVariants.{TooLong, SpaceFull, OutOfMemory, Disk}

-- the answer that the disk gave
abbrev pub DiskReply : Result (Unit {0}) ArchiveFault → Type 0
DiskReply (Ok u) = Unit {0}
DiskReply (Err f) = f ≡ Disk

-- the answer if one more block is asked for and `free` are free
abbrev pub BlockReply : ℕ → Result (Unit {0}) ArchiveFault → Type 0
BlockReply free (Ok u) = 0 < free
BlockReply free (Err SpaceFull) = free ≡ 0
BlockReply free (Err OutOfMemory) = 0 < free
BlockReply free (Err Disk) = 0 < free
BlockReply free (Err _) = ⊥

-- the answer is that the disk failed
abbrev pub IsDiskFault : {T : Type 0} → Result T ArchiveFault → Type 0
IsDiskFault (Ok x) = ⊥
IsDiskFault (Err f) = f ≡ Disk

-- the bytes of a free block are changed at most
abbrev pub ChangesFree : Shape → List Bool → List ℕ → List ℕ → Type 0
ChangesFree shape flags a b = (b ≡ a) ⊎ ((k : ℕ) × (is_free flags k ≡ true) × SameOutside (block_start shape k) 4096 a b)

-- A free block is put after these blocks, and holds these bytes.
pub record Adds (shape : Shape) (flags : List Bool) (old new : List ℕ) (bytes a b : List ℕ) : Type 0 where
  pub block : ℕ
  pub free : is_free flags block ≡ true
  pub blocks : new ≡ old ++ block ∷ []
  pub others : SameOutside (block_start shape block) 4096 a b
  pub written : block_bytes shape b block ≡ bytes

-- these blocks are followed by the lowest free one
abbrev pub AddsLowest : List Bool → List ℕ → List ℕ → Type 0
AddsLowest flags old new = (k : ℕ) × IsLowest flags (Some k) × (new ≡ old ++ k ∷ [])

-- n bytes more fill a stream's block
abbrev pub NeedsBlock : ℕ → ℕ → Type 0
NeedsBlock len n = (n ≢ 0) × (len % 4096 + n ≡ 4096)

-- the same stream with n bytes more, if they fill no block, and if they do
abbrev pub lengthened : StreamParts → ℕ → StreamParts
lengthened s n = record s { facts = record s.facts { len = s.facts.len + n } }

abbrev pub refreshed : StreamParts → ℕ → List ℕ → StreamParts
refreshed s n blocks = record { facts = longer s.facts n blocks; block = zero_block }

-- a stream's growth by n bytes if `free` blocks are free: refused in the order of the faults, each under its condition
abbrev pub Grows : ℕ → ℕ → StreamParts → ℕ → Result (Unit {0}) ArchiveFault → StreamParts → Type 0
Grows free most old n (Ok u) new =
    (old.facts.len + n ≤ most)
    × (((NeedsBlock old.facts.len n → ⊥) × (new ≡ lengthened old n))
    ⊎ (NeedsBlock old.facts.len n × (0 < free) × (length new.facts.blocks ≡ length old.facts.blocks + 1) × (new ≡ refreshed old n new.facts.blocks)))
Grows free most old n (Err TooLong) new = most < old.facts.len + n
Grows free most old n (Err SpaceFull) new = (old.facts.len + n ≤ most) × NeedsBlock old.facts.len n × (free ≡ 0)
Grows free most old n (Err OutOfMemory) new = (old.facts.len + n ≤ most) × NeedsBlock old.facts.len n × (0 < free)
Grows free most old n (Err Disk) new = (old.facts.len + n ≤ most) × NeedsBlock old.facts.len n × (0 < free)
Grows free most old n (Err _) new = ⊥

-- the bytes that it has taken then, and those that are free
abbrev pub GrowsBytes : Shape → StreamParts → ℕ → StreamParts → List ℕ → List ℕ → Type 0
GrowsBytes shape old n new a b = (j : Journaled) → j.standing.shape ≡ shape → taken_in j b new ≡ advanced n (taken_in j a old)

-- a disk fault stops the archive
abbrev pub stops_at : ArchiveFault → Bool
stops_at Disk = true
stops_at _ = false
