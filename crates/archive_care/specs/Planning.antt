-- The content that a copy is to hold, and whether it has room.
use Rattle.std.specs.Prelude.{◌≡◌, ℕ, ◌+◌, ◌<◌, ◌≤◌, length, map, Result, Ok, Err, Some}
use Rattle.journal_layout.specs.Case.{case_of}
use Rattle.journal_layout.specs.Folding.{Folded, used_blocks}
use Rattle.journal_layout.specs.Layout.{IsWithinLimits, half_length}
use Rattle.journal_layout.specs.Rewriting.{snapshot_size}
use Rattle.journal_layout.specs.Standing.{Standing}
use Rattle.journal_layout.specs.declared.shape.Shape.{Shape}
use Rattle.journal_snapshot.specs.Measuring.{IsMeasure}
use Rattle.journal_snapshot.specs.declared.change.Change.TheVariants.{Nothing}
use Rattle.archive_care.specs.Placing.{placed}
use Rattle.archive_care.specs.declared.faults.CopyFault.{CopyFault}
use Rattle.archive_care.specs.declared.faults.CopyFault.TheVariants.{BadShape, SpaceFull, JournalFull, OutOfMemory}
use Rattle.archive_care.specs.declared.planning.Plan.{Plan}

-- the content of a copy's journal, in this version of the layout
abbrev pub copied_cases : ℕ → Standing → Folded
copied_cases version s = record { version = version; cases = placed 0 s.cases; next = s.next }

-- the images have room
abbrev pub HasSpace : Shape → Standing → Type 0
HasSpace shape s = length (used_blocks s.cases) ≤ shape.data_blocks

-- the records have room; their version takes none
abbrev pub copied_size : Standing → ℕ
copied_size s = snapshot_size (copied_cases s.version s)

-- the cases with their places, or the refusal for lack of room
abbrev pub IsPlan : Shape → Standing → Result Plan CopyFault → Type 0
IsPlan shape s (Ok p) =
    IsWithinLimits shape × HasSpace shape s × (map case_of p.entries.items ≡ placed 0 s.cases) × IsMeasure (half_length shape) Nothing p.entries.items (Some p.measure)
IsPlan shape s (Err BadShape) = IsWithinLimits shape → ⊥
IsPlan shape s (Err SpaceFull) = IsWithinLimits shape × (shape.data_blocks < length (used_blocks s.cases))
IsPlan shape s (Err JournalFull) = IsWithinLimits shape × HasSpace shape s × (half_length shape < copied_size s + 1)
IsPlan shape s (Err OutOfMemory) = Unit {0}
IsPlan shape s (Err _) = ⊥
