-- The cases of an archive that a crash leaves.
use Rattle.std.specs.Prelude.{◌≡◌, ◌⊎◌, ℕ, false, true, Bool, List, Some, Result, Ok, Err, IsTrue, length}
use Rattle.disk_model.specs.Moments.{LeavesOnly}
use Rattle.disk_model.specs.declared.disk.Disk as disk
use Rattle.extents.specs.Runs.{runs_of}
use Rattle.extents.specs.FreeSet.{is_free}
use Rattle.case_journal.specs.Journaled.{Journaled}
use Rattle.case_journal.specs.Keeping.{Keeps}
use Rattle.intake.specs.Contents.{Contents, Taken}
use Rattle.intake.specs.Durable.{Durable, StandsFor, durable_in, with_case, without}
use Rattle.intake.specs.Step.{MayHaveRuns, RetiresSome}
use Rattle.retention.specs.declared.Policy.{Policy}
use Rattle.intake.specs.Live.{case_uses}
use Rattle.intake.specs.Slots.{stream_at}
use Rattle.intake.specs.State.{ArchiveState, StreamFacts}
use Rattle.intake.specs.declared.faults.ArchiveFault.{ArchiveFault}
use Rattle.intake.specs.declared.faults.ArchiveFault.TheVariants.{Disk}

-- The disk is that of the journal, and a disk that a crash leaves now has the images that reads give.
pub record Guards {D : Type 0} (g : disk.Ghosts D) (d : D) (j : Journaled) : Type 0 where
  pub keeps : Keeps g d j
  pub whole : j.stopped ≡ false → IsTrue (g.is_honest d) → (c : List ℕ) → g.may_leave d c → durable_in c j.standing ≡ durable_in (g.seen d) j.standing

-- Disk calls that change none of the cases: a crash at any moment of them leaves these cases.
pub record LeavesCases {D : Type 0} (g : disk.Ghosts D) (old new : D) (j : Journaled) : Type 0 where
  pub guards : Guards g new j
  pub same : j.stopped ≡ false → IsTrue (g.is_honest old) → durable_in (g.seen new) j.standing ≡ durable_in (g.seen old) j.standing
  pub moments : j.stopped ≡ false → IsTrue (g.is_honest old) → LeavesOnly g old new (λ c. StandsFor c (durable_in (g.seen old) j.standing))

-- no case has a block that is free
abbrev pub UsesNoFreeBlock : List Bool → Journaled → Type 0
UsesNoFreeBlock flags j = (k : ℕ) → is_free flags k ≡ true → case_uses j.standing.cases k ≡ 0

-- The cases that a crash after the answer may leave: the new ones; if the disk
-- failed, also those that the call would have left. Other refusals leave no new ones.
abbrev pub LeavesNew : {T : Type 0} → Result T ArchiveFault → Durable → (Durable → Type 0) → List ℕ → Type 0
LeavesNew (Ok x) new doubt c = StandsFor c new
LeavesNew (Err Disk) new doubt c = (x : Durable) × doubt x × StandsFor c x
LeavesNew (Err _) new doubt c = ⊥

abbrev pub Leaves : {T : Type 0} → Durable → Result T ArchiveFault → Durable → (Durable → Type 0) → List ℕ → Type 0
Leaves old r new doubt c = StandsFor c old ⊎ LeavesNew r new doubt c

-- the same of an append: if the disk failed, it would have left the cases that it leaves on success
abbrev pub LeavesStored : {T : Type 0} → Result T ArchiveFault → Durable → Durable → List ℕ → Type 0
LeavesStored r old new c = Leaves old r new (λ x. x ≡ new) c

-- The stream in the slot is the last case, with the bytes that it took, in these blocks.
abbrev pub StoresIn : List ℕ → ArchiveState → Contents → Durable → ℕ → Durable → Type 0
StoresIn blocks s c old slot x =
    (stream : StreamFacts) × (taken : Taken) × (stream_at s.streams slot ≡ Some stream) × (stream_at c.taken slot ≡ Some taken)
    × MayHaveRuns stream.len (length (runs_of blocks)) × (x ≡ with_case old stream blocks taken.bytes)

-- the cases that an unanswered finish may leave: the same in blocks of as many runs as an image of these bytes may have
abbrev pub MayBeStored : ArchiveState → Contents → Durable → ℕ → Durable → Type 0
MayBeStored s c old slot x = (blocks : List ℕ) × StoresIn blocks s c old slot x

-- the cases that an unanswered retirement may leave: those that the rule drops are gone
abbrev pub MayBeRetired : ArchiveState → Policy → Durable → Durable → Type 0
MayBeRetired s policy old x = (dropped : List ℕ) × (unmet : Bool) × RetiresSome s policy dropped unmet × (x ≡ without old dropped)
