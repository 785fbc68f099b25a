-- The effect of an append on a journal, and the conditions under which it is refused.
use Rattle.std.specs.Prelude.{◌≡◌, ◌⊎◌, ℕ, ◌+◌, ◌^◌, ◌<◌, ◌≤◌, true, false, List, Result, Ok, Err}
use Rattle.journal_layout.specs.Layout.{half_length}
use Rattle.journal_layout.specs.Case.{Case}
use Rattle.journal_layout.specs.Record.{Record, Label, record_size}
use Rattle.journal_layout.specs.Standing.{Standing, folded_of, store_of}
use Rattle.journal_layout.specs.Soundness.{IsSound, IsStorable, IsLive, IsLabel}
use Rattle.journal_layout.specs.declared.entry.Entry.{Entry}
use Rattle.journal_layout.specs.Folding.{after}
use Rattle.case_journal.specs.Refusing.{LeavesDisk}
use Rattle.case_journal.specs.Compacting.{SnapshotFits, SnapshotOverflows}
use Rattle.case_journal.specs.Journaled.{Journaled, halted, after_append}
use Rattle.case_journal.specs.declared.faults.JournalFault.{JournalFault}
use Rattle.case_journal.specs.declared.faults.JournalFault.TheVariants.{Stopped, JournalFull, NumbersSpent, OutOfMemory, Disk, OldVersion}

-- The record and the gate after it fit into the taken half, or the cases and the next number with the record have room in the other half.
abbrev pub RecordFits : Standing → Record → Type 0
RecordFits s r = (s.used + record_size r + 1 ≤ half_length s.shape) ⊎ SnapshotFits s (after r (folded_of s))

abbrev pub RecordOverflows : Standing → Record → Type 0
RecordOverflows s r = (half_length s.shape < s.used + record_size r + 1) × SnapshotOverflows s (after r (folded_of s))

-- the case may be stored: its record passes every check but that of its number
abbrev pub MayStore : Standing → Case → Type 0
MayStore s c = IsStorable s.shape.data_blocks s.cases c

-- the record may come after those that are there
abbrev pub MayFollow : Standing → Record → Type 0
MayFollow s r = IsSound s.shape.data_blocks (folded_of s) r

-- the live case of this number may get this label
abbrev pub MayLabel : Standing → ℕ → List ℕ → Type 0
MayLabel s seq text = IsLive s.cases seq × IsLabel text

-- A record's append: refused in the order of the faults, each under its condition.
abbrev pub AppendStep : Journaled → Record → Result (Unit {0}) JournalFault → Journaled → Type 0
AppendStep old r (Ok u) new = (old.stopped ≡ false) × RecordFits old.standing r × (new ≡ after_append old r)
AppendStep old r (Err Stopped) new = (old.stopped ≡ true) × (new ≡ old)
AppendStep old r (Err JournalFull) new = (old.stopped ≡ false) × RecordOverflows old.standing r × (new ≡ old)
AppendStep old r (Err NumbersSpent) new = ⊥
AppendStep old r (Err OutOfMemory) new = (old.stopped ≡ false) × RecordFits old.standing r × (new ≡ old)
AppendStep old r (Err Disk) new = (old.stopped ≡ false) × RecordFits old.standing r × (new ≡ halted old)
AppendStep old r (Err OldVersion) new = ⊥

-- The same of a label, which version 1 of the layout does not keep.
abbrev pub LabelStep : Journaled → ℕ → List ℕ → Result (Unit {0}) JournalFault → Journaled → Type 0
LabelStep old seq text (Err Stopped) new = AppendStep old (Label seq text) (Err Stopped) new
LabelStep old seq text (Err OldVersion) new = (old.stopped ≡ false) × (old.standing.version ≡ 1) × (new ≡ old)
LabelStep old seq text (Ok u) new = (old.standing.version ≡ 2) × AppendStep old (Label seq text) (Ok u) new
LabelStep old seq text (Err f) new = (old.standing.version ≡ 2) × AppendStep old (Label seq text) (Err f) new

-- the same of a case, which gets the next number, if numbers are left
abbrev pub StoreRefused : Journaled → Case → JournalFault → Journaled → Type 0
StoreRefused old c Stopped new = (old.stopped ≡ true) × (new ≡ old)
StoreRefused old c JournalFull new = (old.stopped ≡ false) × RecordOverflows old.standing (store_of old.standing c) × (new ≡ old)
StoreRefused old c NumbersSpent new =
    (old.stopped ≡ false) × RecordFits old.standing (store_of old.standing c) × (old.standing.next ≡ 2 ^ 32) × (new ≡ old)
StoreRefused old c OutOfMemory new =
    (old.stopped ≡ false) × RecordFits old.standing (store_of old.standing c) × (old.standing.next < 2 ^ 32) × (new ≡ old)
StoreRefused old c Disk new =
    (old.stopped ≡ false) × RecordFits old.standing (store_of old.standing c) × (old.standing.next < 2 ^ 32) × (new ≡ halted old)
StoreRefused old c OldVersion new = ⊥

abbrev pub StoreStep : Journaled → Case → Result ℕ (JournalFault × Entry) → Journaled → Type 0
StoreStep old c (Ok seq) new =
    (old.stopped ≡ false) × RecordFits old.standing (store_of old.standing c) × (old.standing.next < 2 ^ 32)
    × (seq ≡ old.standing.next) × (new ≡ after_append old (store_of old.standing c))
StoreStep old c (Err e) new = StoreRefused old c e.0 new

-- the answer is that the disk failed
-- the answer that the disk failed
abbrev pub IsStoreDiskFault : Result ℕ (JournalFault × Entry) → Type 0
IsStoreDiskFault (Ok seq) = ⊥
IsStoreDiskFault (Err e) = e.0 ≡ Disk

abbrev pub RefusalLeaves : {D : Type 0} → Result (Unit {0}) JournalFault → D → D → Type 0
RefusalLeaves (Ok u) old new = Unit {0}
RefusalLeaves (Err f) old new = LeavesDisk f old new

abbrev pub StoreRefusalLeaves : {D : Type 0} → Result ℕ (JournalFault × Entry) → D → D → Type 0
StoreRefusalLeaves (Ok seq) old new = Unit {0}
StoreRefusalLeaves (Err e) old new = LeavesDisk e.0 old new
