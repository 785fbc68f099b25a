-- A record as bytes that are to be put after those of a journal.
use Rattle.std.specs.Prelude.{◌≡◌, ℕ, ◌+◌, ◌*◌, ◌≤◌, List, [], ◌∷◌, ◌++◌, length, IsTrue, Result, Ok, Err, if◌then◌else◌}
use Rattle.disk_model.specs.declared.disk.Disk as disk
use Rattle.journal_layout.specs.Layout.{half_start, half_length}
use Rattle.journal_layout.specs.Rewriting.{fits, other_start}
use Rattle.journal_layout.specs.Record.{Record, behind_gate, record_size}
use Rattle.journal_layout.specs.Standing.{Standing}
use Rattle.journal_snapshot.specs.Filling.{Fills}
use Rattle.case_journal.specs.declared.compacting.JournalEnd.{JournalEnd}
use Rattle.case_journal.specs.declared.faults.JournalFault.{JournalFault}
use Rattle.case_journal.specs.declared.faults.JournalFault.TheVariants.{JournalFull, Disk}
use Rattle.case_journal.specs.Doubting.{DoubtsGates}
use Rattle.case_journal.specs.Append.{RecordFits, RecordOverflows, MayFollow}
use Rattle.case_journal.specs.Keeping.{LeavesEither}

-- These bytes are those after the record's gate, and a closed gate; the record may follow those of the journal.
pub record IsPut (s : Standing) (r : Record) (behind : List ℕ) : Type 0 where
  pub bytes : behind ≡ behind_gate r ++ 0 ∷ []
  pub long : length behind ≡ record_size r
  pub sound : MayFollow s r

-- a record is put after the others: only the disk refuses it
abbrev pub BehindStep : Standing → ℕ → Result JournalEnd JournalFault → Type 0
BehindStep s size (Ok p) = p ≡ record { half = s.half; generation = s.generation; used = s.used + size }
BehindStep s size (Err Disk) = Unit {0}
BehindStep s size (Err _) = ⊥

-- whether a record has room, after the others or in the other half
abbrev pub DecidesFit : Standing → Record → Result (Unit {0}) JournalFault → Type 0
DecidesFit s r (Ok u) = RecordFits s r
DecidesFit s r (Err JournalFull) = RecordOverflows s r
DecidesFit s r (Err _) = ⊥

-- The place at which an append writes: after the records of the taken half, its gate, its bytes and the next gate; or the other half, if
-- the record does not fit there.
abbrev pub written_at : Standing → Record → ℕ
written_at s r = if fits s r then half_start s.shape s.half + s.used else other_start s

abbrev pub written_long : Standing → Record → ℕ
written_long s r = if fits s r then 1 + record_size r else half_length s.shape

-- The effect of an append on the disk: a crash at any moment leaves the journal from before or the one after it, and only one of the halves is
-- written; nothing else is changed.
pub record RunsAppend {D : Type 0} (g : disk.Ghosts D) (old new : D) (s : Standing) (r : Record) : Type 0 where
  pub moments : IsTrue (g.is_honest old) → LeavesEither g old new s r
  pub half : Fills g old new (written_at s r) (written_long s r)
  pub fills : Fills g old new 4096 (2 * half_length s.shape)
  pub doubts : IsTrue (g.is_honest old) → DoubtsGates g new s.shape
  pub later : g.failures old ≤ g.failures new
