-- The calls of an open archive as one relation, and runs of them.
use Rattle.std.specs.Prelude.{◌≡◌, ◌≢◌, ◌==◌, ℕ, Bool, false, List, [], ◌∷◌, ◌++◌, length, take, Option, None, Some, Result, Ok, Err, IsTrue, Vec, if◌then◌else◌}
use Rattle.std.specs.Global.{Global}
use Rattle.std.specs.Borrow.{Bor}
use Rattle.std.specs.List.{AllByRecursion}
use Rattle.disk_model.specs.declared.disk.Disk as disk
use Rattle.journal_layout.specs.declared.entry.Entry.{Entry}
use Rattle.intake.specs.Calls.{BeginCall, AdvanceCall, FinishCall, AbandonCall, DeleteCall, PinCall, LabelCall, UpgradeCall, RetireCall, ImageCall}
use Rattle.intake.specs.Contents.{Taken}
use Rattle.intake.specs.Durable.{Durable, FoundCase, durable_of, without, flagged, labelled, upgraded}
use Rattle.intake.specs.Guarding.{MayBeStored, MayBeRetired}
use Rattle.intake.specs.Marks.{Mark, IsRunOfMarks, mark_of, doubted}
use Rattle.intake.specs.Opened.{CaseReply, CasesReply}
use Rattle.intake.specs.Parts.{Parts, state_of, contents_of}
use Rattle.intake.specs.Room.{room_of, room_left}
use Rattle.intake.specs.Slots.{stream_at}
use Rattle.intake.specs.State.{StreamFacts}
use Rattle.intake.specs.Step.{RoomReply, FreeReply, VersionReply}
use Rattle.intake.specs.declared.faults.ArchiveFault.{ArchiveFault}
use Rattle.intake.specs.declared.space.Space.{Space}
use Rattle.retention.specs.declared.Decision.{Decision}
use Rattle.retention.specs.declared.Policy.{Policy}

-- a call of an open archive, with its arguments
pub data Call : Type 0 where
  -- a stream begins in a slot, of this kind and name and of this process
  begin_in : ℕ → StreamFacts → Call
  -- the free part of a slot's block is lent, and its borrower leaves these bytes in it
  lend_of : ℕ → List ℕ → Call
  -- the first of the lent bytes are taken, this number of them
  advance_by : ℕ → ℕ → Call
  -- the stream in a slot becomes a case
  finish_of : ℕ → Call
  -- the stream in a slot is dropped
  abandon_of : ℕ → Call
  -- the case of this number is dropped
  delete_of : ℕ → Call
  -- the case of this number is kept from deletion, or no longer
  pin_of : ℕ → Bool → Call
  -- the case of this number gets a label
  label_of : ℕ → List ℕ → Call
  -- the archive goes into version 2 of the layout
  upgrade_it : Call
  -- the cases that the rule drops under this policy are dropped
  retire_by : Policy → Call
  -- the bytes of a case's image
  image_of : ℕ → Call
  -- the case of this number, without its image
  find_case : ℕ → Call
  -- the cases
  list_cases : Call
  -- the free data blocks
  count_free : Call
  -- the version of the layout
  ask_version : Call
  -- whether a disk fault has stopped the archive
  ask_stopped : Call

-- the type of a call's answer
abbrev pub ReplyTo : Call → Type 0
ReplyTo (finish_of slot) = Result ℕ ArchiveFault
ReplyTo (retire_by policy) = Result Decision ArchiveFault
ReplyTo (image_of seq) = Result (Vec ℕ Global) ArchiveFault
ReplyTo (find_case seq) = Result (Bor Entry) ArchiveFault
ReplyTo list_cases = Result (Bor (List Entry)) ArchiveFault
ReplyTo count_free = Result Space ArchiveFault
ReplyTo ask_version = Result ℕ ArchiveFault
ReplyTo ask_stopped = Bool
ReplyTo _ = Result (Unit {0}) ArchiveFault

-- The answer of a call, and the archive after it, as the call's contract promises them. A slice that is lent keeps its length.
abbrev pub Makes : {D : Type 0} → disk.Ghosts D → Parts D → (call : Call) → ReplyTo call → Parts D → Type 0
Makes g old (begin_in slot s) r new = BeginCall g old slot (record s { len = 0; blocks = [] }) r new
Makes g old (lend_of slot left) r new = RoomReply (state_of old) slot r × (length left ≡ length (room_of old slot r)) × (new ≡ room_left old slot r left)
Makes g old (advance_by slot n) r new = AdvanceCall g old slot n r new
Makes g old (finish_of slot) r new = FinishCall g old slot r new
Makes g old (abandon_of slot) r new = AbandonCall g old slot r new
Makes g old (delete_of seq) r new = DeleteCall g old seq r new
Makes g old (pin_of seq flag) r new = PinCall g old seq flag r new
Makes g old (label_of seq text) r new = LabelCall g old seq text r new
Makes g old upgrade_it r new = UpgradeCall g old r new
Makes g old (retire_by policy) r new = RetireCall g old policy r new
Makes g old (image_of seq) r new = ImageCall g old seq r new
Makes g old (find_case seq) r new = CaseReply old seq r × (new ≡ old)
Makes g old list_cases r new = CasesReply old r × (new ≡ old)
Makes g old count_free r new = FreeReply (state_of old) r × (new ≡ old)
Makes g old ask_version r new = VersionReply (state_of old) r × (new ≡ old)
Makes g old ask_stopped r new = (r ≡ old.stopped) × (new ≡ old)

-- A call that was made: its answer, and the archive then.
pub record Made (D : Type 0) : Type 0 where
  pub call : Call
  pub reply : ReplyTo call
  pub archive : Parts D

-- calls one after the other
abbrev pub AreMade : {D : Type 0} → disk.Ghosts D → Parts D → List (Made D) → Type 0
AreMade g a [] = Unit {0}
AreMade g a (m ∷ ms) = Makes g a m.call m.reply m.archive × AreMade g m.archive ms

-- the archive after them
abbrev pub archive_after : {D : Type 0} → Parts D → List (Made D) → Parts D
archive_after a [] = a
archive_after a (m ∷ ms) = archive_after m.archive ms

-- the cases that a call would have left, had the disk not failed
abbrev pub WouldLeave : {D : Type 0} → disk.Ghosts D → Parts D → Call → Durable → Type 0
WouldLeave g old (finish_of slot) x = MayBeStored (state_of old) (contents_of g.seen old) (durable_of g.seen old) slot x
WouldLeave g old (delete_of seq) x = x ≡ without (durable_of g.seen old) (seq ∷ [])
WouldLeave g old (pin_of seq flag) x = x ≡ flagged (durable_of g.seen old) seq flag
WouldLeave g old (label_of seq text) x = x ≡ labelled (durable_of g.seen old) seq text
WouldLeave g old upgrade_it x = x ≡ upgraded (durable_of g.seen old)
WouldLeave g old (retire_by policy) x = MayBeRetired (state_of old) policy (durable_of g.seen old) x
WouldLeave g old _ x = ⊥

-- the cases that a call newly puts in doubt: these, if it changes cases and answered that the disk failed; otherwise none
abbrev pub newly_doubted : (call : Call) → ReplyTo call → List Durable → List Durable
newly_doubted (finish_of slot) r more = doubted {T = ℕ} r more
newly_doubted (delete_of seq) r more = doubted {T = Unit {0}} r more
newly_doubted (pin_of seq flag) r more = doubted {T = Unit {0}} r more
newly_doubted (label_of seq text) r more = doubted {T = Unit {0}} r more
newly_doubted upgrade_it r more = doubted {T = Unit {0}} r more
newly_doubted (retire_by policy) r more = doubted {T = Decision} r more
newly_doubted _ r more = []

-- a mark after each call: the state of the archive then, with the cases that are in doubt
abbrev pub AreMarks : {D : Type 0} → disk.Ghosts D → Parts D → List Durable → List (Made D) → List (Mark D) → Type 0
AreMarks g a before [] [] = Unit {0}
AreMarks g a before [] (n ∷ ns) = ⊥
AreMarks g a before (m ∷ ms) [] = ⊥
AreMarks g a before (m ∷ ms) (n ∷ ns) =
    (more : List Durable) × AllByRecursion (WouldLeave g a m.call) more × (n ≡ mark_of g.seen m.archive (newly_doubted m.call m.reply more ++ before))
    × AreMarks g m.archive (newly_doubted m.call m.reply more ++ before) ms ns

-- Calls one after the other are a run of marks, one after each call.
abbrev pub CallsAreMarks : {D : Type 0} → disk.Ghosts D → Type 0
CallsAreMarks {D} g = (a : Parts D) (before : List Durable) (made : List (Made D)) → AreMade g a made
    → (marks : List (Mark D)) × AreMarks g a before made marks × IsRunOfMarks g (mark_of g.seen a before) marks

-- the free part of a stream's block
abbrev pub free_bytes : Option Taken → List ℕ
free_bytes None = []
free_bytes (Some t) = t.free

-- the bytes that a call takes into the stream of a slot: if it advances that stream, the first of its free part as they are
abbrev pub taken_by : {D : Type 0} → (D → List ℕ) → ℕ → Parts D → (call : Call) → ReplyTo call → List ℕ
taken_by seen slot old (advance_by at n) (Ok u) = if at == slot then take n (free_bytes (stream_at (contents_of seen old).taken slot)) else []
taken_by seen slot old (advance_by at n) (Err f) = []
taken_by seen slot old _ r = []

-- the same of calls one after the other
abbrev pub taken_over : {D : Type 0} → (D → List ℕ) → ℕ → Parts D → List (Made D) → List ℕ
taken_over seen slot a [] = []
taken_over seen slot a (m ∷ ms) = taken_by seen slot a m.call m.reply ++ taken_over seen slot m.archive ms

-- a stream is open in the slot after each of the calls
abbrev pub StaysOpen : {D : Type 0} → ℕ → List (Made D) → Type 0
StaysOpen slot [] = Unit {0}
StaysOpen slot (m ∷ ms) = (stream_at (state_of m.archive).streams slot ≢ None) × StaysOpen slot ms

-- The case of a stream that began so, under this number, with these bytes as its image.
pub record IsCaseOf (s : StreamFacts) (seq : ℕ) (bytes : List ℕ) (c : FoundCase) : Type 0 where
  pub number : c.case.seq ≡ seq
  pub origin : c.case.origin ≡ s.origin
  pub unpinned : c.case.pinned ≡ false
  pub unlabelled : c.case.label ≡ []
  pub image : c.image ≡ bytes

-- A case has the facts with which its own stream began, and its image has the bytes that the stream's calls took, from its start to its
-- finish, whatever other calls were made between.
abbrev pub AnImageIsWhatWasTaken : {D : Type 0} → disk.Ghosts D → Type 0
AnImageIsWhatWasTaken {D} g = (old begun : Parts D) (slot : ℕ) (s : StreamFacts) (u : Unit {0}) (made : List (Made D)) (new : Parts D) (seq : ℕ) → IsTrue (g.is_honest old.disk)
    → Makes g old (begin_in slot s) (Ok u) begun → AreMade g begun made → StaysOpen slot made → Makes g (archive_after begun made) (finish_of slot) (Ok seq) new
    → (c : FoundCase) × IsCaseOf s seq (taken_over g.seen slot begun made) c
    × ((durable_of g.seen new).cases ≡ (durable_of g.seen (archive_after begun made)).cases ++ c ∷ [])

-- A later answer about the case's image gives the same image, whatever calls are made after the finish.
abbrev pub AnImageIsAnsweredAsItWasTaken : {D : Type 0} → disk.Ghosts D → Type 0
AnImageIsAnsweredAsItWasTaken {D} g = (old begun : Parts D) (slot : ℕ) (s : StreamFacts) (u : Unit {0}) (made : List (Made D)) (stored : Parts D) (seq : ℕ) (later : List (Made D)) (image : Vec ℕ Global) (last : Parts D)
    → IsTrue (g.is_honest old.disk) → Makes g old (begin_in slot s) (Ok u) begun → AreMade g begun made → StaysOpen slot made → Makes g (archive_after begun made) (finish_of slot) (Ok seq) stored
    → AreMade g stored later → Makes g (archive_after stored later) (image_of seq) (Ok image) last → image.items ≡ taken_over g.seen slot begun made
