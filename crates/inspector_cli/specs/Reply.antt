-- The reply to a line, and its effect on the archive.
use Rattle.std.specs.Prelude.{◌≡◌, ℕ, ◌+◌, ◌-◌, ◌/◌, ◌%◌, ◌<◌, ◌≤◌, Bool, true, false, List, [], ◌++◌, length, Option, None, Some, Result, Ok, Err, is_ok, IsTrue, codes, if◌then◌else◌}
use Rattle.std.specs.Result.{result_ok}
use Rattle.script_streams.specs.Replies.{no_reply}
use Rattle.intake.specs.declared.faults.ArchiveFault.{ArchiveFault}
use Rattle.intake.specs.declared.space.Space.{Space}
use Rattle.intake.specs.declared.faults.ArchiveFault.TheVariants.{Stopped, NoStream, TooLong, SpaceFull, OutOfMemory, Disk}
use Rattle.disk_model.specs.declared.disk.Disk as disk
use Rattle.intake.specs.Calls.{ChangesNoCase, HasDiskCause, BeginCall, AbandonCall, FinishCall, DeleteCall, PinCall, LabelCall, UpgradeCall, RetireCall}
use Rattle.intake.specs.Contents.{Contents, Taken, RefusedBytes, with_taken}
use Rattle.intake.specs.Parts.{Parts, state_of, contents_of}
use Rattle.intake.specs.Slots.{stream_at}
use Rattle.intake.specs.State.{ArchiveState, StreamFacts, blocks_in}
use Rattle.intake.specs.Step.{FreeReply, FillsBlocks, with_stream, halted, longer}
use Rattle.retention.specs.declared.Decision.{Decision}
use Rattle.retention.specs.declared.Policy.{Policy}
use Rattle.archive_replies.specs.Texts.{plain_reply, begin_reply, end_reply, retire_reply, free_reply, list_reply}
use Rattle.stream_names.specs.Streams.{exec_stream, core_stream}
use Rattle.stream_names.specs.declared.naming.Naming.{Naming}
use Rattle.case_queries.specs.Inspecting.{Inspects}
use Rattle.script_lines.specs.Queries.{QuerySaid, by_build}
use Rattle.script_lines.specs.Said.{Said, silence, bad_line, long_line, begin_exec, begin_core, part_of, end_of, drop_of, delete_of, pin_of, label_of, retire_by, list_all_cases, count_free, upgrade_archive, inspect_of}

-- `begin`: the fault of the name comes first. It is accepted or not.
abbrev pub Begins : {D : Type 0} → disk.Ghosts D → Parts D → ℕ → Result StreamFacts (List ℕ) → List ℕ → Parts D → Bool → Type 0
Begins g old slot (Err reason) reply new accepted = (reply ≡ no_reply reason) × (new ≡ old) × (accepted ≡ false)
Begins g old slot (Ok stream) reply new accepted =
    (result : Result (Unit {0}) ArchiveFault) × BeginCall g old slot stream result new × (reply ≡ begin_reply stream.origin.name result) × (accepted ≡ is_ok result)

-- the blocks that are in use once a stream is filled up to m bytes
abbrev pub filled_up_to : ArchiveState → StreamFacts → ℕ → ℕ
filled_up_to s stream m = blocks_in s + (m / 4096 - stream.len / 4096)

-- the place at which a stream meets the full disk: filled up to m bytes, which are whole blocks, it would take one block more than there are
abbrev pub IsWall : ArchiveState → StreamFacts → ℕ → Type 0
IsWall s stream m = (m % 4096 ≡ 0) × (stream.len < m) × (filled_up_to s stream m ≡ s.shape.data_blocks + 1)

-- n bytes more can be taken, whatever pieces they come in
abbrev pub MayTake : ArchiveState → StreamFacts → ℕ → Type 0
MayTake s stream n = (stream.len + n ≤ s.limit) × ((m : ℕ) → IsWall s stream m → stream.len + n < m)

-- the stream is in its slot
abbrev pub IsOpen : ArchiveState → ℕ → StreamFacts → Type 0
IsOpen s slot stream = (s.stopped ≡ false) × (stream_at s.streams slot ≡ Some stream)

-- n bytes more as one step, whatever pieces they come in: they take the lowest free blocks. If they meet the limit and the full disk, the one
-- that they meet first is the reply. If memory or the disk failed, that was while some of them were taken.
abbrev pub TakeStep : ArchiveState → ℕ → ℕ → Result (Unit {0}) ArchiveFault → ArchiveState → Type 0
TakeStep old slot n (Ok u) new =
    (s : StreamFacts) × IsOpen old slot s × MayTake old s n
    × (blocks : List ℕ) × (new ≡ with_stream old slot (Some (longer s n blocks))) × FillsBlocks old slot s ((s.len + n) / 4096) blocks
TakeStep old slot n (Err Stopped) new = (old.stopped ≡ true) × (new ≡ old)
TakeStep old slot n (Err NoStream) new = (old.stopped ≡ false) × (stream_at old.streams slot ≡ None) × (new ≡ old)
TakeStep old slot n (Err TooLong) new =
    (s : StreamFacts) × IsOpen old slot s × (old.limit < s.len + n) × ((m : ℕ) → IsWall old s m → old.limit < m) × (new ≡ with_stream old slot None)
TakeStep old slot n (Err SpaceFull) new =
    (s : StreamFacts) × (m : ℕ) × IsOpen old slot s × IsWall old s m × (m ≤ s.len + n) × (m ≤ old.limit) × (new ≡ with_stream old slot None)
TakeStep old slot n (Err OutOfMemory) new =
    (s : StreamFacts) × (k : ℕ) × IsOpen old slot s × (k ≤ n) × MayTake old s k × (new ≡ with_stream old slot None)
TakeStep old slot n (Err Disk) new =
    (s : StreamFacts) × (k : ℕ) × IsOpen old slot s × (k ≤ n) × MayTake old s k × (new ≡ halted old)
TakeStep old slot n (Err _) new = ⊥

-- the bytes of a stream once these were taken; the bytes after them in its block are left open
abbrev pub TakeBytes : Contents → ℕ → List ℕ → Result (Unit {0}) ArchiveFault → Contents → Type 0
TakeBytes old slot raw (Ok u) new =
    (t : Taken) × (free : List ℕ) × (stream_at old.taken slot ≡ Some t) × (new ≡ with_taken old slot (Some (record { bytes = t.bytes ++ raw; free = free })))
TakeBytes old slot raw (Err f) new = RefusedBytes old slot f new

-- these bytes are taken as one step
pub record Takes {D : Type 0} (g : disk.Ghosts D) (old : Parts D) (slot : ℕ) (raw : List ℕ) (r : Result (Unit {0}) ArchiveFault) (new : Parts D) : Type 0 where
  pub step : TakeStep (state_of old) slot (length raw) r (state_of new)
  pub bytes : IsTrue (g.is_honest old.disk) → TakeBytes (contents_of g.seen old) slot raw r (contents_of g.seen new)
  pub cause : HasDiskCause g old r new
  pub stays : ChangesNoCase g old new

-- `part`: its bytes are taken
abbrev pub Feeds : {D : Type 0} → disk.Ghosts D → Parts D → ℕ → List ℕ → List ℕ → Parts D → Type 0
Feeds g old slot raw reply new =
    (result : Result (Unit {0}) ArchiveFault) × Takes g old slot raw result new × (reply ≡ plain_reply result)

-- `end`: the case is stored, under a number, or not
abbrev pub Ends : {D : Type 0} → disk.Ghosts D → Parts D → ℕ → List ℕ → Parts D → Option ℕ → Type 0
Ends g old slot reply new stored =
    (result : Result ℕ ArchiveFault) × FinishCall g old slot result new × (reply ≡ end_reply result) × (stored ≡ result_ok result)

abbrev pub Drops : {D : Type 0} → disk.Ghosts D → Parts D → ℕ → List ℕ → Parts D → Type 0
Drops g old slot reply new = (result : Result (Unit {0}) ArchiveFault) × AbandonCall g old slot result new × (reply ≡ plain_reply result)

abbrev pub Deletes : {D : Type 0} → disk.Ghosts D → Parts D → ℕ → List ℕ → Parts D → Type 0
Deletes g old seq reply new = (result : Result (Unit {0}) ArchiveFault) × DeleteCall g old seq result new × (reply ≡ plain_reply result)

abbrev pub Pins : {D : Type 0} → disk.Ghosts D → Parts D → ℕ → Bool → List ℕ → Parts D → Type 0
Pins g old seq flag reply new = (result : Result (Unit {0}) ArchiveFault) × PinCall g old seq flag result new × (reply ≡ plain_reply result)

abbrev pub Labels : {D : Type 0} → disk.Ghosts D → Parts D → ℕ → List ℕ → List ℕ → Parts D → Type 0
Labels g old seq label reply new = (result : Result (Unit {0}) ArchiveFault) × LabelCall g old seq label result new × (reply ≡ plain_reply result)

abbrev pub Upgrades : {D : Type 0} → disk.Ghosts D → Parts D → List ℕ → Parts D → Type 0
Upgrades g old reply new = (result : Result (Unit {0}) ArchiveFault) × UpgradeCall g old result new × (reply ≡ plain_reply result)

abbrev pub Retires : {D : Type 0} → disk.Ghosts D → Parts D → Policy → List ℕ → Parts D → Type 0
Retires g old policy reply new = (result : Result Decision ArchiveFault) × RetireCall g old policy result new × (reply ≡ retire_reply result)

abbrev pub Frees : {D : Type 0} → Parts D → List ℕ → Parts D → Type 0
Frees old reply new = (result : Result Space ArchiveFault) × FreeReply (state_of old) result × (reply ≡ free_reply result) × (new ≡ old)

-- the query of a line about an image, if the session has executables chosen by build
abbrev pub query_by : Naming → QuerySaid → QuerySaid
query_by naming query = if naming.by_build then by_build query else query

-- the reply, and the archive after it, if these bytes followed the line, as many as it says
abbrev pub Replies : {D : Type 0} → disk.Ghosts D → Naming → Parts D → Said → List ℕ → List ℕ → Parts D → Type 0
Replies g naming old silence raw reply new = (reply ≡ []) × (new ≡ old)
Replies g naming old bad_line raw reply new = (reply ≡ no_reply (codes "BadLine")) × (new ≡ old)
Replies g naming old long_line raw reply new = (reply ≡ no_reply (codes "LineTooLong")) × (new ≡ old)
Replies g naming old (begin_exec slot name) raw reply new = (accepted : Bool) × Begins g old slot (exec_stream name) reply new accepted
Replies g naming old (begin_core slot process) raw reply new = (accepted : Bool) × Begins g old slot (core_stream naming process) reply new accepted
Replies g naming old (part_of slot n) raw reply new = Feeds g old slot raw reply new
Replies g naming old (end_of slot) raw reply new = (stored : Option ℕ) × Ends g old slot reply new stored
Replies g naming old (drop_of slot) raw reply new = Drops g old slot reply new
Replies g naming old (delete_of seq) raw reply new = Deletes g old seq reply new
Replies g naming old (pin_of seq flag) raw reply new = Pins g old seq flag reply new
Replies g naming old (label_of seq label) raw reply new = Labels g old seq label reply new
Replies g naming old (retire_by policy) raw reply new = Retires g old policy reply new
Replies g naming old list_all_cases raw reply new = (reply ≡ list_reply (state_of old).stopped (state_of old).version (state_of old).cases) × (new ≡ old)
Replies g naming old count_free raw reply new = Frees old reply new
Replies g naming old upgrade_archive raw reply new = Upgrades g old reply new
Replies g naming old (inspect_of seq query) raw reply new = Inspects g old seq (query_by naming query) reply new

-- the reply if executables are chosen by path, however cores are named
abbrev pub RepliesByPath : {D : Type 0} → disk.Ghosts D → Parts D → Said → List ℕ → Parts D → Type 0
RepliesByPath g old what reply new = (naming : Naming) → naming.by_build ≡ false → Replies g naming old what [] reply new
