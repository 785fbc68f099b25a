-- The effect of rewriting a journal into its other half, and the conditions under which it is refused.
use Rattle.std.specs.Prelude.{◌≡◌, ◌⊎◌, ℕ, ◌+◌, ◌*◌, ◌^◌, ◌<◌, ◌≤◌, true, false, Result, Ok, Err, List, IsTrue, Some}
use Rattle.journal_layout.specs.declared.entry.Entry.{Entry}
use Rattle.journal_layout.specs.declared.shape.Shape.{Shape}
use Rattle.disk_model.specs.Places.{part}
use Rattle.journal_layout.specs.Layout.{half_header, half_length}
use Rattle.journal_layout.specs.Folding.{Folded}
use Rattle.journal_layout.specs.Standing.{Standing, folded_of}
use Rattle.journal_layout.specs.Rewriting.{other_half, other_start, snapshot_size, rewritten, in_version_two, upgraded}
use Rattle.journal_snapshot.specs.declared.change.Change.{Change}
use Rattle.journal_snapshot.specs.declared.measure.Measure.{Measure}
use Rattle.journal_snapshot.specs.Measuring.{IsMeasure, snapshot_bytes}
use Rattle.disk_model.specs.declared.disk.Disk as disk
use Rattle.disk_model.specs.Moments.{LeavesOnly}
use Rattle.journal_layout.specs.Stands.{Stands}
use Rattle.journal_snapshot.specs.Filling.{Fills}
use Rattle.case_journal.specs.declared.compacting.JournalEnd.{JournalEnd}
use Rattle.case_journal.specs.Doubting.{DoubtsGates}
use Rattle.case_journal.specs.Refusing.{LeavesDisk}
use Rattle.case_journal.specs.Journaled.{Journaled, running, halted}
use Rattle.case_journal.specs.declared.faults.JournalFault.{JournalFault}
use Rattle.case_journal.specs.declared.faults.JournalFault.TheVariants.{Stopped, JournalFull, NumbersSpent, OutOfMemory, Disk, OldVersion}

-- the other half takes the cases and the next number as a snapshot with the gate after it, and a generation is left for that half
abbrev pub SnapshotFits : Standing → Folded → Type 0
SnapshotFits s f = (snapshot_size f + 1 ≤ half_length s.shape) × (s.generation + 1 < 2 ^ 64)

abbrev pub SnapshotOverflows : Standing → Folded → Type 0
SnapshotOverflows s f = (half_length s.shape < snapshot_size f + 1) ⊎ (s.generation + 1 ≡ 2 ^ 64)

-- the same cases and next number, written anew
abbrev pub compacted : Standing → Standing
compacted s = rewritten s (folded_of s)

-- the next record goes there
abbrev pub moved : Journaled → JournalEnd → Journaled
moved j p = record j { standing = record j.standing { half = p.half; generation = p.generation; used = p.used } }

-- after a snapshot of these cases and this next number, in the other half
abbrev pub snapshot_end : Standing → Folded → JournalEnd
snapshot_end s f = record { half = other_half s.half; generation = s.generation + 1; used = snapshot_size f }

-- The journal is written anew with the new cases and next number: only room, memory and the disk refuse it.
abbrev pub SnapshotStep : Standing → Folded → Result JournalEnd JournalFault → Type 0
SnapshotStep s f (Ok p) = SnapshotFits s f × (p ≡ snapshot_end s f)
SnapshotStep s f (Err JournalFull) = SnapshotOverflows s f
SnapshotStep s f (Err OutOfMemory) = SnapshotFits s f
SnapshotStep s f (Err Disk) = SnapshotFits s f
SnapshotStep s f (Err _) = ⊥

-- all refusals but that of the disk leave it as it is
abbrev pub PutLeaves : {D : Type 0} → Result JournalEnd JournalFault → D → D → Type 0
PutLeaves (Ok p) old new = Unit {0}
PutLeaves (Err f) old new = LeavesDisk f old new

-- A compaction: refused in the order of the faults, each under its condition.
abbrev pub CompactStep : Journaled → Result (Unit {0}) JournalFault → Journaled → Type 0
CompactStep old (Ok u) new =
    (old.stopped ≡ false) × SnapshotFits old.standing (folded_of old.standing) × (new ≡ running (compacted old.standing))
CompactStep old (Err Stopped) new = (old.stopped ≡ true) × (new ≡ old)
CompactStep old (Err JournalFull) new =
    (old.stopped ≡ false) × SnapshotOverflows old.standing (folded_of old.standing) × (new ≡ old)
CompactStep old (Err NumbersSpent) new = ⊥
CompactStep old (Err OutOfMemory) new =
    (old.stopped ≡ false) × SnapshotFits old.standing (folded_of old.standing) × (new ≡ old)
CompactStep old (Err Disk) new =
    (old.stopped ≡ false) × SnapshotFits old.standing (folded_of old.standing) × (new ≡ halted old)
CompactStep old (Err OldVersion) new = ⊥

-- the cases and the next number, in version 2 of the layout
abbrev pub anew_in_two : Standing → Folded
anew_in_two s = in_version_two (folded_of s)

-- An upgrade: a compaction into version 2 of the layout. If the journal has that version, nothing is done.
abbrev pub UpgradeStep : Journaled → Result (Unit {0}) JournalFault → Journaled → Type 0
UpgradeStep old (Ok u) new =
    (old.stopped ≡ false)
    × (((old.standing.version ≡ 2) × (new ≡ old))
    ⊎ ((old.standing.version ≡ 1) × SnapshotFits old.standing (anew_in_two old.standing) × (new ≡ running (upgraded old.standing))))
UpgradeStep old (Err Stopped) new = (old.stopped ≡ true) × (new ≡ old)
UpgradeStep old (Err JournalFull) new =
    (old.stopped ≡ false) × (old.standing.version ≡ 1) × SnapshotOverflows old.standing (anew_in_two old.standing) × (new ≡ old)
UpgradeStep old (Err NumbersSpent) new = ⊥
UpgradeStep old (Err OutOfMemory) new =
    (old.stopped ≡ false) × (old.standing.version ≡ 1) × SnapshotFits old.standing (anew_in_two old.standing) × (new ≡ old)
UpgradeStep old (Err Disk) new =
    (old.stopped ≡ false) × (old.standing.version ≡ 1) × SnapshotFits old.standing (anew_in_two old.standing) × (new ≡ halted old)
UpgradeStep old (Err OldVersion) new = ⊥

-- whether the entries after a change have room in the other half, by their bytes
abbrev pub MeasuresSnapshot : Shape → ℕ → Change → List Entry → Result Measure JournalFault → Type 0
MeasuresSnapshot shape generation ch es (Ok m) = IsMeasure (half_length shape) ch es (Some m) × (generation + 1 < 2 ^ 64)
MeasuresSnapshot shape generation ch es (Err JournalFull) = (half_length shape < snapshot_bytes ch es + 1) ⊎ (generation + 1 ≡ 2 ^ 64)
MeasuresSnapshot shape generation ch es (Err _) = ⊥

-- only the memory and the disk refuse a write
abbrev pub IsWriteAnswer : Result (Unit {0}) JournalFault → Type 0
IsWriteAnswer (Ok u) = Unit {0}
IsWriteAnswer (Err OutOfMemory) = Unit {0}
IsWriteAnswer (Err Disk) = Unit {0}
IsWriteAnswer (Err _) = ⊥

-- stopped if the disk failed
abbrev pub noted : JournalFault → Journaled → Journaled
noted Disk j = halted j
noted _ j = j

-- After its gate the other half has a header of this version and the next generation, with zeros where the layout has zeros.
abbrev pub HasHeader : Standing → ℕ → List ℕ → Type 0
HasHeader s version bytes = part bytes (other_start s + 1) 31 ≡ half_header version (s.generation + 1)

-- Its effect on the disk: a crash at any moment leaves the journal from before or the new one, and only the half that is not taken is changed.
pub record RunsSnapshot {D : Type 0} (g : disk.Ghosts D) (old new : D) (s : Standing) (f : Folded) : Type 0 where
  pub moments : IsTrue (g.is_honest old) → LeavesOnly g old new (λ c. Stands c s ⊎ Stands c (rewritten s f))
  pub half : Fills g old new (other_start s) (half_length s.shape)
  pub fills : Fills g old new 4096 (2 * half_length s.shape)
  pub doubts : IsTrue (g.is_honest old) → DoubtsGates g new s.shape
  pub later : g.failures old ≤ g.failures new
