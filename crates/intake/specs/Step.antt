-- The effect of each call on the state without bytes, and the conditions under which the call is refused: relations by cases, with the
-- refusals in the order in which they are tried.
use Rattle.std.specs.Prelude.{◌≡◌, ◌≢◌, ℕ, zero, suc, ◌+◌, ◌*◌, ◌/◌, ◌%◌, ◌^◌, ◌<◌, ◌≤◌, Bool, true, false, List, [], ◌∷◌, ◌++◌, length, Option, None, Some, Result, Ok, Err, slice_set, ◌||◌, ◌⊎◌, map, nat_lt, sum_by, if◌then◌else◌}
use Rattle.std.specs.List.{list_any}
use Rattle.std.specs.Str.{bytes_eq}
use Rattle.extents.specs.FreeSet.{uses}
use Rattle.extents.specs.Runs.{runs_of}
use Rattle.journal_layout.specs.Soundness.{case_numbered}
use Rattle.journal_layout.specs.Folding.{dropped, is_name_of, pinned_as, labelled_as}
use Rattle.journal_layout.specs.Case.{Case}
use Rattle.journal_layout.specs.Layout.{half_length}
use Rattle.journal_layout.specs.Record.{rounded}
use Rattle.retention.specs.Rule.{IsDecision}
use Rattle.retention.specs.declared.Brief.{Brief}
use Rattle.retention.specs.declared.Policy.{Policy}
use Rattle.retention.specs.declared.Decision.{Decision}
use Rattle.intake.specs.Live.{case_uses}
use Rattle.intake.specs.declared.faults.ArchiveFault.{ArchiveFault}
use Rattle.intake.specs.declared.space.Space.{Space}
use Rattle.intake.specs.declared.faults.ArchiveFault.TheVariants.{Stopped, BadSlot, SlotBusy, NameTaken, NoStream, TooLong, SpaceFull, NoCase, Pinned, JournalFull, NumbersSpent, OutOfMemory, Disk, OldVersion}
use Rattle.intake.specs.Slots.{stream_at, closed}
use Rattle.intake.specs.State.{ArchiveState, StreamFacts, blocks_for, blocks_in, blocks_by, runs_in}

-- the stream in this slot has this name
abbrev pub has_name : List ℕ → Option StreamFacts → Bool
has_name name None = false
has_name name (Some s) = bytes_eq s.origin.name name

-- one of the cases has the name
abbrev pub is_named : List ℕ → List Case → Bool
is_named name cases = is_name_of cases name

-- a live case or an open stream has the name
abbrev pub is_taken : ArchiveState → List ℕ → Bool
is_taken s name = is_named name s.cases || list_any (has_name name) s.streams

-- the same state with this in a slot
abbrev pub with_stream : ArchiveState → ℕ → Option StreamFacts → ArchiveState
with_stream s slot o = record s { streams = slice_set s.streams slot o }

-- the same state, stopped by a disk fault, and without streams
abbrev pub halted : ArchiveState → ArchiveState
halted s = record s { stopped = true; streams = closed s.streams }

-- begin: a stream with no bytes
abbrev pub MayBegin : ArchiveState → ℕ → List ℕ → Type 0
MayBegin old slot name =
    (old.stopped ≡ false) × (slot < length old.streams) × (stream_at old.streams slot ≡ None) × (is_taken old name ≡ false)

abbrev pub BeginStep : ArchiveState → ℕ → StreamFacts → Result (Unit {0}) ArchiveFault → ArchiveState → Type 0
BeginStep old slot s (Ok u) new = MayBegin old slot s.origin.name × (new ≡ with_stream old slot (Some s))
BeginStep old slot s (Err Stopped) new = (old.stopped ≡ true) × (new ≡ old)
BeginStep old slot s (Err BadSlot) new = (old.stopped ≡ false) × (length old.streams ≤ slot) × (new ≡ old)
BeginStep old slot s (Err SlotBusy) new =
    (old.stopped ≡ false) × (slot < length old.streams) × (stream_at old.streams slot ≢ None) × (new ≡ old)
BeginStep old slot s (Err NameTaken) new =
    (old.stopped ≡ false) × (slot < length old.streams) × (stream_at old.streams slot ≡ None) × (is_taken old s.origin.name ≡ true) × (new ≡ old)
BeginStep old slot s (Err OutOfMemory) new = MayBegin old slot s.origin.name × (new ≡ old)
BeginStep old slot s (Err _) new = ⊥

-- how often the cases and the streams use block k
abbrev pub block_uses : ArchiveState → ℕ → ℕ
block_uses s k = case_uses s.cases k + sum_by (λ (o : Option StreamFacts). uses (blocks_by o) k) s.streams

-- Block k is the lowest data block that neither the archive nor one more stream, which has these blocks, uses.
pub record IsLowestFree (s : ArchiveState) (have : List ℕ) (k : ℕ) : Type 0 where
  pub within : k < s.shape.data_blocks
  pub free : block_uses s k + uses have k ≡ 0
  pub lower_used : (j : ℕ) → j < k → 0 < block_uses s j + uses have j

-- a stream that has these blocks takes `count` more, each the lowest free one
abbrev pub TakesLowest : ArchiveState → List ℕ → ℕ → List ℕ → Type 0
TakesLowest s have zero blocks = blocks ≡ have
TakesLowest s have (suc n) blocks = (k : ℕ) × IsLowestFree s have k × TakesLowest s (have ++ k ∷ []) n blocks

-- the stream in a slot takes the lowest free blocks until it has `total`: these are its blocks then
abbrev pub FillsBlocks : ArchiveState → ℕ → StreamFacts → ℕ → List ℕ → Type 0
FillsBlocks s slot stream total blocks =
    (count : ℕ) × (stream.len / 4096 + count ≡ total) × TakesLowest (with_stream s slot None) stream.blocks count blocks

-- room: the free part is lent
abbrev pub RoomReply : ArchiveState → ℕ → Result (Unit {0}) ArchiveFault → Type 0
RoomReply old slot (Ok u) = (old.stopped ≡ false) × (stream_at old.streams slot ≢ None)
RoomReply old slot (Err Stopped) = old.stopped ≡ true
RoomReply old slot (Err NoStream) = (old.stopped ≡ false) × (stream_at old.streams slot ≡ None)
RoomReply old slot (Err _) = ⊥

-- the same stream with n bytes more, and with these blocks
abbrev pub longer : StreamFacts → ℕ → List ℕ → StreamFacts
longer s n blocks = record s { len = s.len + n; blocks = blocks }

-- the stream in this slot may take n bytes more, by its length
abbrev pub MayGrow : ArchiveState → ℕ → ℕ → StreamFacts → Type 0
MayGrow old slot n s = (old.stopped ≡ false) × (stream_at old.streams slot ≡ Some s) × (s.len + n ≤ old.limit)

-- n bytes more fill a block, and no block is free
abbrev pub FindsNoBlock : ArchiveState → StreamFacts → ℕ → Type 0
FindsNoBlock old s n = (n ≢ 0) × ((s.len + n) % 4096 ≡ 0) × (blocks_in old ≡ old.shape.data_blocks)

-- advance: n bytes more, for which the lowest free blocks are taken
abbrev pub AdvanceStep : ArchiveState → ℕ → ℕ → Result (Unit {0}) ArchiveFault → ArchiveState → Type 0
AdvanceStep old slot n (Ok u) new =
    (s : StreamFacts) × MayGrow old slot n s × (FindsNoBlock old s n → ⊥)
    × (blocks : List ℕ) × (new ≡ with_stream old slot (Some (longer s n blocks))) × FillsBlocks old slot s ((s.len + n) / 4096) blocks
AdvanceStep old slot n (Err Stopped) new = (old.stopped ≡ true) × (new ≡ old)
AdvanceStep old slot n (Err NoStream) new = (old.stopped ≡ false) × (stream_at old.streams slot ≡ None) × (new ≡ old)
AdvanceStep old slot n (Err TooLong) new =
    (s : StreamFacts) × (old.stopped ≡ false) × (stream_at old.streams slot ≡ Some s) × (old.limit < s.len + n) × (new ≡ with_stream old slot None)
AdvanceStep old slot n (Err SpaceFull) new =
    (s : StreamFacts) × MayGrow old slot n s × FindsNoBlock old s n × (new ≡ with_stream old slot None)
AdvanceStep old slot n (Err OutOfMemory) new =
    (s : StreamFacts) × MayGrow old slot n s × (FindsNoBlock old s n → ⊥) × (new ≡ with_stream old slot None)
AdvanceStep old slot n (Err Disk) new =
    (s : StreamFacts) × MayGrow old slot n s × (FindsNoBlock old s n → ⊥) × (new ≡ halted old)
AdvanceStep old slot n (Err _) new = ⊥

-- the bytes of the record of a case of this name in `runs` runs
abbrev pub record_size : List ℕ → ℕ → ℕ
record_size name runs = rounded (48 + 8 * runs + length name)

-- a case of `len` bytes may lie in `runs` runs
abbrev pub MayHaveRuns : ℕ → ℕ → Type 0
MayHaveRuns len runs = (runs ≤ blocks_for len) × (0 < len → 0 < runs)

-- the bytes of the record of a label
abbrev pub label_size : List ℕ → ℕ
label_size text = rounded (16 + length text)

-- the same if the journal is written anew: an empty label has no record there
abbrev pub label_bytes : List ℕ → ℕ
label_bytes [] = 0
label_bytes (b ∷ rest) = label_size (b ∷ rest)

-- the bytes of the records that say a case
abbrev pub case_size : Case → ℕ
case_size c = record_size c.origin.name (runs_in c) + label_bytes c.label

-- the bytes of a half of the journal that says these cases and a next number, and nothing else: its header, a record for each
-- case, one for each label that is not empty, and one of the number
abbrev pub snapshot_size : List Case → ℕ
snapshot_size cases = 48 + sum_by case_size cases

-- these cases have room in the journal's other half, written anew, with a gate after them, and a generation is left for it
abbrev pub FitsAnew : ArchiveState → List Case → Type 0
FitsAnew s cases = (snapshot_size cases + 1 ≤ half_length s.shape) × (s.generation + 1 < 2 ^ 64)

-- A record of `size` bytes, after which there are these cases, has room with the gate after it: after the records that are there, or in the journal's other half, where
-- these cases are written anew and a generation is left for it.
abbrev pub BytesFit : ArchiveState → ℕ → List Case → Type 0
BytesFit s size cases =
    (s.used + size + 1 ≤ half_length s.shape) ⊎ FitsAnew s cases

-- the journal was written anew as often as it can be
abbrev pub IsLastGeneration : ArchiveState → Type 0
IsLastGeneration s = s.generation + 1 ≡ 2 ^ 64

-- these cases have no room there
abbrev pub OverflowsAnew : ArchiveState → List Case → Type 0
OverflowsAnew s cases = (half_length s.shape < snapshot_size cases + 1) ⊎ IsLastGeneration s

-- such a record has room in neither half
abbrev pub IsFull : ArchiveState → ℕ → List Case → Type 0
IsFull s size cases =
    (half_length s.shape < s.used + size + 1) × OverflowsAnew s cases

-- the same state with these cases, by a record of `size` bytes: it follows the others if it
-- fits there, otherwise the other half has the cases, written anew
abbrev pub recorded : ArchiveState → ℕ → List Case → ArchiveState
recorded s size cases = record s {
  cases = cases;
  used = if nat_lt (s.used + size) (half_length s.shape) then s.used + size else snapshot_size cases;
  generation = if nat_lt (s.used + size) (half_length s.shape) then s.generation else s.generation + 1;
}

-- the case that a stream becomes, in these blocks
abbrev pub case_from : StreamFacts → ℕ → List ℕ → Case
case_from s seq blocks = record {
  seq = seq;
  origin = s.origin;
  pinned = false;
  len = s.len;
  blocks = blocks;
  label = [];
}

-- the cases with the stream as the last one
abbrev pub cases_with : ArchiveState → StreamFacts → List ℕ → List Case
cases_with old s blocks = old.cases ++ case_from s old.next blocks ∷ []

-- the bytes of the record of that case
abbrev pub stream_size : StreamFacts → List ℕ → ℕ
stream_size s blocks = record_size s.origin.name (length (runs_of blocks))

-- the stream becomes the last case
abbrev pub stored : ArchiveState → ℕ → StreamFacts → List ℕ → ArchiveState
stored old slot s blocks = record (recorded (with_stream old slot None) (stream_size s blocks) (cases_with old s blocks)) { next = old.next + 1 }

-- the stream is in its slot, and there is a block for the bytes that fill none
abbrev pub MayFinish : ArchiveState → ℕ → StreamFacts → Type 0
MayFinish old slot s =
    (old.stopped ≡ false) × (stream_at old.streams slot ≡ Some s)
    × ((s.len % 4096 ≢ 0) → (blocks_in old ≡ old.shape.data_blocks) → ⊥)

-- finish: the stream becomes the last case. The bytes that fill no block take the lowest free one.
abbrev pub FinishStep : ArchiveState → ℕ → Result ℕ ArchiveFault → ArchiveState → Type 0
FinishStep old slot (Ok seq) new =
    (s : StreamFacts) × (blocks : List ℕ) × MayFinish old slot s × MayHaveRuns s.len (length (runs_of blocks)) × BytesFit old (stream_size s blocks) (cases_with old s blocks)
    × (old.next < 2 ^ 32) × (seq ≡ old.next) × (new ≡ stored old slot s blocks) × FillsBlocks old slot s (blocks_for s.len) blocks
FinishStep old slot (Err Stopped) new = (old.stopped ≡ true) × (new ≡ old)
FinishStep old slot (Err NoStream) new = (old.stopped ≡ false) × (stream_at old.streams slot ≡ None) × (new ≡ old)
FinishStep old slot (Err SpaceFull) new =
    (s : StreamFacts) × (old.stopped ≡ false) × (stream_at old.streams slot ≡ Some s)
    × (s.len % 4096 ≢ 0) × (blocks_in old ≡ old.shape.data_blocks) × (new ≡ with_stream old slot None)
FinishStep old slot (Err JournalFull) new =
    (s : StreamFacts) × (blocks : List ℕ) × MayFinish old slot s × MayHaveRuns s.len (length (runs_of blocks))
    × IsFull old (stream_size s blocks) (cases_with old s blocks) × (new ≡ with_stream old slot None)
    × FillsBlocks old slot s (blocks_for s.len) blocks
FinishStep old slot (Err NumbersSpent) new =
    (s : StreamFacts) × (blocks : List ℕ) × MayFinish old slot s × MayHaveRuns s.len (length (runs_of blocks)) × BytesFit old (stream_size s blocks) (cases_with old s blocks)
    × (old.next ≡ 2 ^ 32) × (new ≡ with_stream old slot None) × FillsBlocks old slot s (blocks_for s.len) blocks
FinishStep old slot (Err OutOfMemory) new = (s : StreamFacts) × MayFinish old slot s × (new ≡ with_stream old slot None)
FinishStep old slot (Err Disk) new = (s : StreamFacts) × MayFinish old slot s × (new ≡ halted old)
FinishStep old slot (Err _) new = ⊥

-- abandon: the stream is gone
abbrev pub AbandonStep : ArchiveState → ℕ → Result (Unit {0}) ArchiveFault → ArchiveState → Type 0
AbandonStep old slot (Ok u) new =
    (old.stopped ≡ false) × (stream_at old.streams slot ≢ None) × (new ≡ with_stream old slot None)
AbandonStep old slot (Err Stopped) new = (old.stopped ≡ true) × (new ≡ old)
AbandonStep old slot (Err NoStream) new = (old.stopped ≡ false) × (stream_at old.streams slot ≡ None) × (new ≡ old)
AbandonStep old slot (Err _) new = ⊥

-- free_blocks: the free data blocks, and all of them
abbrev pub FreeReply : ArchiveState → Result Space ArchiveFault → Type 0
FreeReply old (Ok space) =
    (old.stopped ≡ false) × (space.free + blocks_in old ≡ old.shape.data_blocks) × (space.data_blocks ≡ old.shape.data_blocks)
FreeReply old (Err Stopped) = old.stopped ≡ true
FreeReply old (Err _) = ⊥

-- the case of this number is live
abbrev pub HasCase : ArchiveState → ℕ → Case → Type 0
HasCase old seq c = (old.stopped ≡ false) × (case_numbered seq old.cases ≡ Some c)

-- the bytes of the record that drops n cases
abbrev pub drop_size : ℕ → ℕ
drop_size n = rounded (12 + 4 * n)

-- the cases that have none of these numbers
abbrev pub cases_without : ArchiveState → List ℕ → List Case
cases_without old seqs = dropped seqs old.cases

-- the same state without these cases
abbrev pub without_cases : ArchiveState → List ℕ → ArchiveState
without_cases old seqs = recorded old (drop_size (length seqs)) (cases_without old seqs)

-- the record that drops them has room
abbrev pub DropFits : ArchiveState → List ℕ → Type 0
DropFits old seqs = BytesFit old (drop_size (length seqs)) (cases_without old seqs)

-- cases are dropped that may be, in an archive that runs
abbrev pub DropStep : ArchiveState → List ℕ → Result (Unit {0}) ArchiveFault → ArchiveState → Type 0
DropStep old seqs (Ok u) new = DropFits old seqs × (new ≡ without_cases old seqs)
DropStep old seqs (Err JournalFull) new = IsFull old (drop_size (length seqs)) (cases_without old seqs) × (new ≡ old)
DropStep old seqs (Err OutOfMemory) new = DropFits old seqs × (new ≡ old)
DropStep old seqs (Err Disk) new = DropFits old seqs × (new ≡ halted old)
DropStep old seqs (Err _) new = ⊥

-- delete: the case is gone
abbrev pub DeleteStep : ArchiveState → ℕ → Result (Unit {0}) ArchiveFault → ArchiveState → Type 0
DeleteStep old seq (Ok u) new =
    (c : Case) × HasCase old seq c × (c.pinned ≡ false) × DropFits old (seq ∷ []) × (new ≡ without_cases old (seq ∷ []))
DeleteStep old seq (Err Stopped) new = (old.stopped ≡ true) × (new ≡ old)
DeleteStep old seq (Err NoCase) new = (old.stopped ≡ false) × (case_numbered seq old.cases ≡ None) × (new ≡ old)
DeleteStep old seq (Err Pinned) new = (c : Case) × HasCase old seq c × (c.pinned ≡ true) × (new ≡ old)
DeleteStep old seq (Err JournalFull) new =
    (c : Case) × HasCase old seq c × (c.pinned ≡ false) × IsFull old (drop_size 1) (cases_without old (seq ∷ [])) × (new ≡ old)
DeleteStep old seq (Err OutOfMemory) new = (c : Case) × HasCase old seq c × (c.pinned ≡ false) × DropFits old (seq ∷ []) × (new ≡ old)
DeleteStep old seq (Err Disk) new = (c : Case) × HasCase old seq c × (c.pinned ≡ false) × DropFits old (seq ∷ []) × (new ≡ halted old)
DeleteStep old seq (Err _) new = ⊥

-- the bytes of the record that pins a case
abbrev pub pin_size : ℕ
pin_size = 16

-- the cases with the flag of one set
abbrev pub cases_flagged : ArchiveState → ℕ → Bool → List Case
cases_flagged old seq flag = map (pinned_as seq flag) old.cases

-- the same state with the flag of a case set
abbrev pub with_flag : ArchiveState → ℕ → Bool → ArchiveState
with_flag old seq flag = recorded old pin_size (cases_flagged old seq flag)

-- the record that sets it has room
abbrev pub PinFits : ArchiveState → ℕ → Bool → Type 0
PinFits old seq flag = BytesFit old pin_size (cases_flagged old seq flag)

-- pin: the flag is set; nothing changes if it is set already
abbrev pub PinStep : ArchiveState → ℕ → Bool → Result (Unit {0}) ArchiveFault → ArchiveState → Type 0
PinStep old seq flag (Ok u) new =
    (c : Case) × HasCase old seq c
    × (((c.pinned ≡ flag) × (new ≡ old)) ⊎ ((c.pinned ≢ flag) × PinFits old seq flag × (new ≡ with_flag old seq flag)))
PinStep old seq flag (Err Stopped) new = (old.stopped ≡ true) × (new ≡ old)
PinStep old seq flag (Err NoCase) new = (old.stopped ≡ false) × (case_numbered seq old.cases ≡ None) × (new ≡ old)
PinStep old seq flag (Err JournalFull) new =
    (c : Case) × HasCase old seq c × (c.pinned ≢ flag) × IsFull old pin_size (cases_flagged old seq flag) × (new ≡ old)
PinStep old seq flag (Err OutOfMemory) new = (c : Case) × HasCase old seq c × (c.pinned ≢ flag) × PinFits old seq flag × (new ≡ old)
PinStep old seq flag (Err Disk) new = (c : Case) × HasCase old seq c × (c.pinned ≢ flag) × PinFits old seq flag × (new ≡ halted old)
PinStep old seq flag (Err _) new = ⊥

-- the cases with the label of one set
abbrev pub cases_labelled : ArchiveState → ℕ → List ℕ → List Case
cases_labelled old seq text = map (labelled_as seq text) old.cases

-- the same state with the label of a case set
abbrev pub with_label : ArchiveState → ℕ → List ℕ → ArchiveState
with_label old seq text = recorded old (label_size text) (cases_labelled old seq text)

-- the record that sets it has room
abbrev pub LabelFits : ArchiveState → ℕ → List ℕ → Type 0
LabelFits old seq text = BytesFit old (label_size text) (cases_labelled old seq text)

-- the case of this number is live, in an archive whose version keeps labels
abbrev pub MayLabel : ArchiveState → ℕ → Case → Type 0
MayLabel old seq c = HasCase old seq c × (old.version ≡ 2)

-- label: the label is set; nothing changes if the case has it already. Version 1 keeps no labels, not even the empty one.
abbrev pub LabelStep : ArchiveState → ℕ → List ℕ → Result (Unit {0}) ArchiveFault → ArchiveState → Type 0
LabelStep old seq text (Ok u) new =
    (c : Case) × MayLabel old seq c
    × (((c.label ≡ text) × (new ≡ old)) ⊎ ((c.label ≢ text) × LabelFits old seq text × (new ≡ with_label old seq text)))
LabelStep old seq text (Err Stopped) new = (old.stopped ≡ true) × (new ≡ old)
LabelStep old seq text (Err NoCase) new = (old.stopped ≡ false) × (case_numbered seq old.cases ≡ None) × (new ≡ old)
LabelStep old seq text (Err OldVersion) new = (c : Case) × HasCase old seq c × (old.version ≡ 1) × (new ≡ old)
LabelStep old seq text (Err JournalFull) new =
    (c : Case) × MayLabel old seq c × (c.label ≢ text) × IsFull old (label_size text) (cases_labelled old seq text) × (new ≡ old)
LabelStep old seq text (Err OutOfMemory) new = (c : Case) × MayLabel old seq c × (c.label ≢ text) × LabelFits old seq text × (new ≡ old)
LabelStep old seq text (Err Disk) new =
    (c : Case) × MayLabel old seq c × (c.label ≢ text) × LabelFits old seq text × (new ≡ halted old)
LabelStep old seq text (Err _) new = ⊥

-- the same cases in version 2 of the layout, written anew
abbrev pub anew_in_two : ArchiveState → ArchiveState
anew_in_two s = record s { version = 2; used = snapshot_size s.cases; generation = s.generation + 1 }

-- an archive that runs is of version 1
abbrev pub MayUpgrade : ArchiveState → Type 0
MayUpgrade old = (old.stopped ≡ false) × (old.version ≡ 1)

-- upgrade: the cases are written anew in version 2 of the layout; if the archive has that version, nothing changes
abbrev pub UpgradeStep : ArchiveState → Result (Unit {0}) ArchiveFault → ArchiveState → Type 0
UpgradeStep old (Ok u) new =
    (old.stopped ≡ false)
    × (((old.version ≡ 2) × (new ≡ old)) ⊎ ((old.version ≡ 1) × FitsAnew old old.cases × (new ≡ anew_in_two old)))
UpgradeStep old (Err Stopped) new = (old.stopped ≡ true) × (new ≡ old)
UpgradeStep old (Err JournalFull) new = MayUpgrade old × OverflowsAnew old old.cases × (new ≡ old)
UpgradeStep old (Err OutOfMemory) new = MayUpgrade old × FitsAnew old old.cases × (new ≡ old)
UpgradeStep old (Err Disk) new = MayUpgrade old × FitsAnew old old.cases × (new ≡ halted old)
UpgradeStep old (Err _) new = ⊥

-- version: that of the layout, 1 or 2
abbrev pub VersionReply : ArchiveState → Result ℕ ArchiveFault → Type 0
VersionReply old (Ok version) = (old.stopped ≡ false) × (version ≡ old.version) × ((version ≡ 1) ⊎ (version ≡ 2))
VersionReply old (Err Stopped) = old.stopped ≡ true
VersionReply old (Err _) = ⊥

-- the fields of a case that the rule reads
abbrev pub brief_of : Case → Brief
brief_of c = record { seq = c.seq; time = c.origin.time; length = c.len; pinned = c.pinned }

-- by the rule these cases go, and some do
abbrev pub RetiresSome : ArchiveState → Policy → List ℕ → Bool → Type 0
RetiresSome old policy dropped unmet = (old.stopped ≡ false) × IsDecision policy (map brief_of old.cases) dropped unmet × (dropped ≢ [])

-- retire: the cases that the rule drops are gone; if it drops none, nothing changes
abbrev pub RetireStep : ArchiveState → Policy → Result Decision ArchiveFault → ArchiveState → Type 0
RetireStep old policy (Ok d) new =
    (old.stopped ≡ false) × IsDecision policy (map brief_of old.cases) d.dropped.items d.unmet
    × (((d.dropped.items ≡ []) × (new ≡ old))
    ⊎ ((d.dropped.items ≢ []) × DropFits old d.dropped.items × (new ≡ without_cases old d.dropped.items)))
RetireStep old policy (Err Stopped) new = (old.stopped ≡ true) × (new ≡ old)
RetireStep old policy (Err JournalFull) new =
    (dropped : List ℕ) × (unmet : Bool) × RetiresSome old policy dropped unmet
    × IsFull old (drop_size (length dropped)) (cases_without old dropped) × (new ≡ old)
RetireStep old policy (Err OutOfMemory) new = (old.stopped ≡ false) × (new ≡ old)
RetireStep old policy (Err Disk) new =
    (dropped : List ℕ) × (unmet : Bool) × RetiresSome old policy dropped unmet × DropFits old dropped × (new ≡ halted old)
RetireStep old policy (Err _) new = ⊥

-- image: the bytes of a case are read; only a disk fault changes the state
abbrev pub ImageStep : {T : Type 0} → ArchiveState → ℕ → Result T ArchiveFault → ArchiveState → Type 0
ImageStep old seq (Ok image) new = (c : Case) × HasCase old seq c × (new ≡ old)
ImageStep old seq (Err Stopped) new = (old.stopped ≡ true) × (new ≡ old)
ImageStep old seq (Err NoCase) new = (old.stopped ≡ false) × (case_numbered seq old.cases ≡ None) × (new ≡ old)
ImageStep old seq (Err OutOfMemory) new = (c : Case) × HasCase old seq c × (new ≡ old)
ImageStep old seq (Err Disk) new = (c : Case) × HasCase old seq c × (new ≡ halted old)
ImageStep old seq (Err _) new = ⊥
