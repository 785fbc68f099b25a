-- The agreement between a disk and the journal that was opened on it.
use Rattle.std.specs.Prelude.{◌≡◌, ◌⊎◌, ℕ, ◌*◌, ◌≤◌, false, List, IsTrue}
use Rattle.disk_model.specs.Disk.{ChangedIn}
use Rattle.disk_model.specs.Moments.{LeavesOnly}
use Rattle.disk_model.specs.Places.{SameOutside}
use Rattle.disk_model.specs.declared.disk.Disk as disk
use Rattle.journal_layout.specs.Layout.{disk_length, half_length, data_start}
use Rattle.journal_layout.specs.Record.{Record}
use Rattle.journal_layout.specs.Standing.{Standing}
use Rattle.journal_layout.specs.Rewriting.{appended}
use Rattle.journal_layout.specs.Stands.{Stands}
use Rattle.journal_snapshot.specs.Holding.{SameFront, Holds}
use Rattle.case_journal.specs.Doubting.{DoubtsGates}
use Rattle.case_journal.specs.Journaled.{Journaled}

-- The disk is that of the journal. If a disk fault has stopped the journal,
-- only the disk's size and the bytes that may be in doubt are known.
pub record Keeps {D : Type 0} (g : disk.Ghosts D) (d : D) (j : Journaled) : Type 0 where
  pub size : g.size d ≡ disk_length j.standing.shape
  pub holds : j.stopped ≡ false → IsTrue (g.is_honest d) → Holds g d j.standing
  -- stopped or not
  pub doubts : IsTrue (g.is_honest d) → DoubtsGates g d j.standing.shape

-- Before or after: a crash at any moment of an append leaves bytes that encode one of the two.
abbrev pub LeavesEither : {D : Type 0} → disk.Ghosts D → D → D → Standing → Record → Type 0
LeavesEither g old new s r = LeavesOnly g old new (λ c. Stands c s ⊎ Stands c (appended s r))

-- a crash at any moment leaves only disks that one before could have left, except for bytes of the two halves
abbrev pub LeavesOutside : {D : Type 0} → disk.Ghosts D → D → D → Standing → Type 0
LeavesOutside g old new s = LeavesOnly g old new (ChangedIn 4096 (2 * half_length s.shape) (g.may_leave old))

-- a change after the halves keeps the archive that the bytes encode, and the superblock and both halves
abbrev pub DataIsApart : Type 0
DataIsApart =
    (s : Standing) (at n : ℕ) (b c : List ℕ) → Stands b s → SameOutside at n b c → data_start s.shape ≤ at
    → Stands c s × SameFront s.shape b c
