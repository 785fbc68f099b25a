-- The definition of a copy of an archive, and the promise of a call that makes one.
use Rattle.std.specs.Prelude.{◌≡◌, ◌⊎◌, ℕ, ◌+◌, ◌*◌, ◌<◌, ◌≤◌, Bool, false, List, [], length, map, if◌then◌else◌, Result, Ok, Err, OnOk, IsTrue}
use Rattle.disk_model.specs.Disk.{HasRisen}
use Rattle.disk_model.specs.Moments.{IsSettled}
use Rattle.disk_model.specs.Places.{part}
use Rattle.disk_model.specs.declared.disk.Disk as disk
use Rattle.case_journal.specs.Viewing.{ShowsOpening, OnlyReads}
use Rattle.intake.specs.Blocks.{joined}
use Rattle.intake.specs.Durable.{Durable, FoundCase, StandsFor}
use Rattle.journal_layout.specs.Folding.{used_blocks}
use Rattle.journal_layout.specs.Front.{is_shape_of}
use Rattle.journal_layout.specs.Layout.{IsWithinLimits, disk_length, half_length, data_start}
use Rattle.journal_layout.specs.Rewriting.{rewritten}
use Rattle.journal_layout.specs.Standing.{Standing, fresh}
use Rattle.journal_layout.specs.Stands.{Stands}
use Rattle.journal_layout.specs.declared.faults.OpenFault.TheVariants as open_fault
use Rattle.journal_layout.specs.declared.shape.Half.TheVariants.{A}
use Rattle.journal_layout.specs.declared.shape.Shape.{Shape}
use Rattle.archive_care.specs.Placing.{moved}
use Rattle.archive_care.specs.Planning.{HasSpace, copied_cases, copied_size}
use Rattle.archive_care.specs.declared.copying.CopyWish.{CopyWish}
use Rattle.archive_care.specs.declared.faults.CopyFault.{CopyFault}
use Rattle.archive_care.specs.declared.faults.CopyFault.TheVariants.{Open, BadShape, SpaceFull, JournalFull, OutOfMemory, Source, Target}

-- a case with its image, wherever that lies
abbrev pub unplaced : FoundCase → FoundCase
unplaced c = record c { case = moved [] c.case }

-- the content of an archive, wherever its images lie
abbrev pub held_by : Durable → Durable
held_by x = record x { cases = map unplaced x.cases }

-- The second holds the same as the first: the same cases, each with its number, facts, pin, label and image, and the same next number. It
-- has this version of the layout.
abbrev pub IsCopyOf : ℕ → Durable → Durable → Type 0
IsCopyOf version x y = held_by y ≡ record (held_by x) { version = version }

-- an opening of these bytes finds a copy
abbrev pub FindsCopy : ℕ → Durable → List ℕ → Type 0
FindsCopy version x bytes = (y : Durable) × StandsFor bytes y × IsCopyOf version x y

-- the version of a copy
abbrev pub copy_version : Bool → ℕ → ℕ
copy_version keeps_labels version = if keeps_labels then 2 else version

-- These bytes are those of a copy: the journal says the cases, and the images lie there one after the other.
pub record HoldsCopy (from : List ℕ) (s : Standing) (shape : Shape) (version : ℕ) (bytes : List ℕ) : Type 0 where
  pub stands : Stands bytes (rewritten (fresh shape A 1 1) (copied_cases version s))
  pub room : HasSpace shape s
  pub images : part bytes (data_start shape) (4096 * length (used_blocks s.cases)) ≡ joined s.shape from (used_blocks s.cases)

-- whether the shape is that of the new disk
abbrev pub RightShape : ℕ → Shape → Result (Unit {0}) CopyFault → Type 0
RightShape size shape (Ok u) = IsWithinLimits shape × (size ≡ disk_length shape)
RightShape size shape (Err BadShape) = is_shape_of size shape ≡ false
RightShape size shape (Err _) = ⊥

-- The new disk has an archive with no case, and the images in their places. A crash leaves the bytes that reads give.
pub record HoldsImages {N : Type 0} (h : disk.Ghosts N) (onto : N) (from : List ℕ) (s : Standing) (shape : Shape) : Type 0 where
  pub stands : Stands (h.seen onto) (fresh shape A 1 1)
  pub settled : IsSettled h onto
  pub images : part (h.seen onto) (data_start shape) (4096 * length (used_blocks s.cases)) ≡ joined s.shape from (used_blocks s.cases)

-- The answer, by the archive on the disk: the copy is refused for lack of room if and only if there is no room.
abbrev pub CopyStep : ℕ → Shape → Standing → Result (Unit {0}) CopyFault → Type 0
CopyStep size shape s (Ok u) = HasSpace shape s × (copied_size s + 1 ≤ half_length shape)
CopyStep size shape s (Err (Open fault)) = (fault ≡ open_fault.Disk) ⊎ (fault ≡ open_fault.OutOfMemory)
CopyStep size shape s (Err BadShape) = is_shape_of size shape ≡ false
CopyStep size shape s (Err SpaceFull) = IsWithinLimits shape × (shape.data_blocks < length (used_blocks s.cases))
CopyStep size shape s (Err JournalFull) = IsWithinLimits shape × HasSpace shape s × (half_length shape < copied_size s + 1)
CopyStep size shape s (Err OutOfMemory) = Unit {0}
CopyStep size shape s (Err Source) = HasSpace shape s × (copied_size s + 1 ≤ half_length shape)
CopyStep size shape s (Err Target) = HasSpace shape s × (copied_size s + 1 ≤ half_length shape)

-- a refusal leaves the new disk as it is, unless a disk failed
abbrev pub SparesNew : {N : Type 0} → Result (Unit {0}) CopyFault → N → N → Type 0
SparesNew (Ok u) onto onto' = Unit {0}
SparesNew (Err Source) onto onto' = Unit {0}
SparesNew (Err Target) onto onto' = Unit {0}
SparesNew (Err _) onto onto' = onto' ≡ onto

-- if the archive could not be opened, the fault is that of its opening
abbrev pub IsOpeningsFault : {D : Type 0} → disk.Ghosts D → D → Result (Unit {0}) CopyFault → Type 0
IsOpeningsFault g from (Err (Open fault)) = ShowsOpening g from (Err fault)
IsOpeningsFault g from _ = Unit {0}

-- only the disk that failed is blamed: its count of failures rose
abbrev pub OpenedCause : {D N : Type 0} → disk.Ghosts D → disk.Ghosts N → D → D → N → N → Result (Unit {0}) CopyFault → Type 0
OpenedCause g h from from' onto onto' (Err (Open open_fault.Disk)) = HasRisen (g.failures from) (g.failures from')
OpenedCause g h from from' onto onto' (Err Source) = HasRisen (g.failures from) (g.failures from')
OpenedCause g h from from' onto onto' (Err Target) = HasRisen (h.failures onto) (h.failures onto')
OpenedCause g h from from' onto onto' r = Unit {0}

-- A copy: its answer, both disks after it, and the archive that is found on the new disk.
pub record CopyCall {D N : Type 0} (g : disk.Ghosts D) (h : disk.Ghosts N) (wanted : CopyWish) (from from' : D) (onto onto' : N) (r : Result (Unit {0}) CopyFault) : Type 0 where
  -- an opening of the new disk finds the archive's cases, whatever a crash from then on leaves of it
  pub copied : (x : Durable) → IsTrue (g.is_honest from) → IsTrue (h.is_honest onto) → StandsFor (g.seen from) x
      → OnOk r ((c : List ℕ) → h.may_leave onto' c → FindsCopy (copy_version wanted.keeps_labels x.version) x c)
  -- the archive determines the refusal
  pub step : (s : Standing) → IsTrue (g.is_honest from) → Stands (g.seen from) s → CopyStep (h.size onto) wanted.shape s r
  pub opening : IsOpeningsFault g from r
  pub spares : SparesNew r onto onto'
  -- the archive is only read
  pub quiet : OnlyReads g from from'
  -- only the disk that failed is blamed
  pub cause : OpenedCause g h from from' onto onto' r
  pub later : g.failures from ≤ g.failures from'
  pub later_onto : h.failures onto ≤ h.failures onto'
  pub honesty : h.is_honest onto' ≡ h.is_honest onto
  pub size : h.size onto' ≡ h.size onto
