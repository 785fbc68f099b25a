-- The whole promise of each call: the new state, the bytes, and the disks that a crash at any moment of the call may leave.
use Rattle.std.specs.Prelude.{◌≡◌, ℕ, ◌+◌, ◌<◌, ◌≤◌, Bool, true, false, List, [], ◌∷◌, length, Option, None, Some, Result, Err, IfOk, IsTrue, Vec, vec_len}
use Rattle.std.specs.Global.{Global}
use Rattle.disk_model.specs.Disk.{HasRisen}
use Rattle.disk_model.specs.Keeping.{KeepsDisk}
use Rattle.disk_model.specs.Moments.{AddsOnly, LeavesOnly}
use Rattle.disk_model.specs.declared.disk.Disk as disk
use Rattle.journal_layout.specs.Soundness.{case_numbered}
use Rattle.journal_layout.specs.Case.{Case}
use Rattle.journal_layout.specs.declared.faults.OpenFault.{OpenFault}
use Rattle.journal_layout.specs.declared.faults.OpenFault.TheVariants as open_fault
use Rattle.journal_layout.specs.Layout.{half_length}
use Rattle.journal_layout.specs.Standing.{Standing}
use Rattle.journal_layout.specs.Stands.{Stands}
use Rattle.case_journal.specs.Viewing.{ShowsOpening, FindsStanding, OnlyReads}
use Rattle.intake.specs.Closing.{FinishPads}
use Rattle.intake.specs.Contents.{BeginBytes, AdvanceBytes, FinishBytes, AbandonBytes, PinBytes, LabelBytes, UpgradeBytes, DeleteBytes, RetireBytes, ImageBytes}
use Rattle.intake.specs.Durable.{Durable, StandsFor, FindsAgain, durable_of, without, flagged, labelled, upgraded}
use Rattle.intake.specs.Guarding.{Leaves, StoresIn, MayBeRetired}
use Rattle.intake.specs.Opened.{IsOpened, disk_in, journal_in}
use Rattle.intake.specs.Parts.{Parts, state_of, contents_of}
use Rattle.intake.specs.Retiring.{KeepsTheName}
use Rattle.intake.specs.Slots.{stream_at}
use Rattle.intake.specs.State.{StreamFacts}
use Rattle.intake.specs.Growth.{IsDiskFault}
use Rattle.intake.specs.Step.{BeginStep, AdvanceStep, FinishStep, AbandonStep, PinStep, LabelStep, UpgradeStep, DeleteStep, RetireStep, ImageStep, IsLastGeneration, is_named, pin_size}
use Rattle.intake.specs.Front.{KeepsFront, KeepsSuperblock, RefusalKeepsFront}
use Rattle.intake.specs.Untouched.{RefusalSpares, AdvanceSpares, FinishSpares, PinSpares, LabelSpares, UpgradeSpares, RetireSpares}
use Rattle.intake.specs.declared.faults.ArchiveFault.{ArchiveFault}
use Rattle.intake.specs.declared.faults.ArchiveFault.TheVariants.{JournalFull, OutOfMemory}
use Rattle.retention.specs.declared.Decision.{Decision}
use Rattle.retention.specs.declared.Policy.{Policy}

-- An opening: its answer, and the disks that a crash at any moment of it may leave, also if the opening is refused.
pub record OpenCall {D : Type 0} (g : disk.Ghosts D) (limit : ℕ) (before : D) (r : Result (Parts D) (OpenFault × D)) : Type 0 where
  -- the opening of some list of bytes as long as the disk, on an honest disk of its bytes
  pub gives : ShowsOpening g before (journal_in r)
  -- the journal that the disk encodes is found, and only the disk and the memory can refuse it
  pub found : (s : Standing) → IsTrue (g.is_honest before) → Stands (g.seen before) s → FindsStanding (journal_in r) s
  -- the same for the cases in its bytes: after a crash, the cases that the crash left are found
  pub found_again : (x : Durable) → IsTrue (g.is_honest before) → StandsFor (g.seen before) x → FindsAgain g.seen r x
  -- the limit is the one that was given, and no stream is open
  pub state : IfOk r (λ a. IsOpened limit a)
  -- a crash from then on leaves the cases that the archive shows
  pub settled : IsTrue (g.is_honest before) → IfOk r (λ a. (c : List ℕ) → g.may_leave a.disk c → StandsFor c (durable_of g.seen a))
  -- a crash meanwhile leaves only disks that a crash before it could have left
  pub any_moment : IsTrue (g.is_honest before) → LeavesOnly g before (disk_in r) (g.may_leave before)
  -- the bytes that reads give stay
  pub seen : IsTrue (g.is_honest before) → g.seen (disk_in r) ≡ g.seen before
  pub cause : journal_in r ≡ Err open_fault.Disk → HasRisen (g.failures before) (g.failures (disk_in r))
  pub later : g.failures before ≤ g.failures (disk_in r)
  pub honesty : g.is_honest (disk_in r) ≡ g.is_honest before
  pub size : g.size (disk_in r) ≡ g.size before

-- A call that changes no case: a crash at any moment of it leaves a disk that one before could have left, or these cases.
pub record ChangesNoCase {D : Type 0} (g : disk.Ghosts D) (old new : Parts D) : Type 0 where
  pub honesty : g.is_honest new.disk ≡ g.is_honest old.disk
  pub later : g.failures old.disk ≤ g.failures new.disk
  pub size : g.size new.disk ≡ g.size old.disk
  pub crash : IsTrue (g.is_honest old.disk) → AddsOnly g old.disk new.disk (λ c. StandsFor c (durable_of g.seen old))
  pub durable : IsTrue (g.is_honest old.disk) → durable_of g.seen new ≡ durable_of g.seen old

-- Disk is answered only if the disk's count of failures rose
abbrev pub HasDiskCause : {D : Type 0} {T : Type 0} → disk.Ghosts D → Parts D → Result T ArchiveFault → Parts D → Type 0
HasDiskCause g old r new = IsDiskFault r → HasRisen (g.failures old.disk) (g.failures new.disk)

-- A call that changes the cases, or would have: a crash at any moment of it leaves the cases from before, or the cases that the call leaves
-- by its answer. Unless the archive is stopped, a crash from then on leaves the cases that the archive shows.
pub record Changes {D : Type 0} (T : Type 0) (g : disk.Ghosts D) (old : Parts D) (r : Result T ArchiveFault) (new : Parts D) (doubt : Durable → Type 0) : Type 0 where
  pub disk : KeepsDisk g old.disk new.disk (IsDiskFault r)
  pub crash : IsTrue (g.is_honest old.disk) → AddsOnly g old.disk new.disk (Leaves (durable_of g.seen old) r (durable_of g.seen new) doubt)
  pub stands : new.stopped ≡ false → IsTrue (g.is_honest new.disk) → (c : List ℕ) → g.may_leave new.disk c → StandsFor c (durable_of g.seen new)

-- Each call of an open archive, by its name: the state, the bytes, and the disks that a crash at any moment of it may leave.

pub record BeginCall {D : Type 0} (g : disk.Ghosts D) (old : Parts D) (slot : ℕ) (s : StreamFacts) (r : Result (Unit {0}) ArchiveFault) (new : Parts D) : Type 0 where
  pub step : BeginStep (state_of old) slot s r (state_of new)
  pub bytes : BeginBytes (contents_of g.seen old) slot r (contents_of g.seen new)
  pub disk : new.disk ≡ old.disk
  pub stays : ChangesNoCase g old new

pub record AdvanceCall {D : Type 0} (g : disk.Ghosts D) (old : Parts D) (slot n : ℕ) (r : Result (Unit {0}) ArchiveFault) (new : Parts D) : Type 0 where
  pub step : AdvanceStep (state_of old) slot n r (state_of new)
  pub bytes : IsTrue (g.is_honest old.disk) → AdvanceBytes (contents_of g.seen old) slot n r (contents_of g.seen new)
  pub cause : HasDiskCause g old r new
  pub stays : ChangesNoCase g old new
  pub untouched : AdvanceSpares (state_of old) slot n r old.disk new.disk
  -- it writes data blocks alone
  pub front : KeepsFront g (state_of old).shape old.disk new.disk

pub record AbandonCall {D : Type 0} (g : disk.Ghosts D) (old : Parts D) (slot : ℕ) (r : Result (Unit {0}) ArchiveFault) (new : Parts D) : Type 0 where
  pub step : AbandonStep (state_of old) slot r (state_of new)
  pub bytes : AbandonBytes (contents_of g.seen old) slot r (contents_of g.seen new)
  pub disk : new.disk ≡ old.disk
  pub stays : ChangesNoCase g old new
  pub slots : length new.streams ≤ 8
  -- whatever is answered, no stream is open in the slot then
  pub quiet : stream_at (state_of new).streams slot ≡ None

pub record FinishCall {D : Type 0} (g : disk.Ghosts D) (old : Parts D) (slot : ℕ) (r : Result ℕ ArchiveFault) (new : Parts D) : Type 0 where
  pub step : FinishStep (state_of old) slot r (state_of new)
  pub bytes : IsTrue (g.is_honest old.disk) → FinishBytes (contents_of g.seen old) slot r (contents_of g.seen new)
  -- the blocks in which the image lies, or would lie had the disk not failed
  pub blocks : List ℕ
  pub changes : Changes ℕ g old r new (StoresIn blocks (state_of old) (contents_of g.seen old) (durable_of g.seen old) slot)
  -- no byte that was in the stream's block after the stream's own bytes gets on the disk
  pub padded : IsTrue (g.is_honest old.disk) → FinishPads g.seen old slot r new
  pub untouched : FinishSpares r old.disk new.disk
  pub superblock : KeepsSuperblock g old.disk new.disk
  -- a refusal keeps the front of the disk too
  pub front : RefusalKeepsFront g (state_of old).shape r old.disk new.disk

pub record DeleteCall {D : Type 0} (g : disk.Ghosts D) (old : Parts D) (seq : ℕ) (r : Result (Unit {0}) ArchiveFault) (new : Parts D) : Type 0 where
  pub step : DeleteStep (state_of old) seq r (state_of new)
  pub bytes : IsTrue (g.is_honest old.disk) → DeleteBytes (state_of old) (contents_of g.seen old) seq r (contents_of g.seen new)
  pub changes : Changes (Unit {0}) g old r new (λ x. x ≡ without (durable_of g.seen old) (seq ∷ []))
  -- the cases that stay can be written anew, unless no generation is left for that
  pub full : IsTrue (g.is_honest old.disk) → r ≡ Err JournalFull → IsLastGeneration (state_of old)
  pub untouched : RefusalSpares {T = Unit {0}} r old.disk new.disk
  pub superblock : KeepsSuperblock g old.disk new.disk

pub record PinCall {D : Type 0} (g : disk.Ghosts D) (old : Parts D) (seq : ℕ) (flag : Bool) (r : Result (Unit {0}) ArchiveFault) (new : Parts D) : Type 0 where
  pub step : PinStep (state_of old) seq flag r (state_of new)
  pub bytes : IsTrue (g.is_honest old.disk) → PinBytes (contents_of g.seen old) r (contents_of g.seen new)
  pub changes : Changes (Unit {0}) g old r new (λ x. x ≡ flagged (durable_of g.seen old) seq flag)
  -- it takes no memory if its record fits after the others
  pub never : r ≡ Err OutOfMemory → half_length (state_of old).shape < (state_of old).used + pin_size + 1
  pub untouched : PinSpares (state_of old) seq flag r old.disk new.disk
  pub superblock : KeepsSuperblock g old.disk new.disk

pub record LabelCall {D : Type 0} (g : disk.Ghosts D) (old : Parts D) (seq : ℕ) (text : List ℕ) (r : Result (Unit {0}) ArchiveFault) (new : Parts D) : Type 0 where
  pub step : LabelStep (state_of old) seq text r (state_of new)
  pub bytes : IsTrue (g.is_honest old.disk) → LabelBytes (contents_of g.seen old) r (contents_of g.seen new)
  pub changes : Changes (Unit {0}) g old r new (λ x. x ≡ labelled (durable_of g.seen old) seq text)
  pub untouched : LabelSpares (state_of old) seq text r old.disk new.disk
  pub superblock : KeepsSuperblock g old.disk new.disk

pub record UpgradeCall {D : Type 0} (g : disk.Ghosts D) (old : Parts D) (r : Result (Unit {0}) ArchiveFault) (new : Parts D) : Type 0 where
  pub step : UpgradeStep (state_of old) r (state_of new)
  pub bytes : IsTrue (g.is_honest old.disk) → UpgradeBytes (contents_of g.seen old) r (contents_of g.seen new)
  pub changes : Changes (Unit {0}) g old r new (λ x. x ≡ upgraded (durable_of g.seen old))
  pub untouched : UpgradeSpares (state_of old) r old.disk new.disk
  pub superblock : KeepsSuperblock g old.disk new.disk

pub record RetireCall {D : Type 0} (g : disk.Ghosts D) (old : Parts D) (policy : Policy) (r : Result Decision ArchiveFault) (new : Parts D) : Type 0 where
  pub step : RetireStep (state_of old) policy r (state_of new)
  pub bytes : IsTrue (g.is_honest old.disk) → RetireBytes (state_of old) (contents_of g.seen old) r (contents_of g.seen new)
  pub changes : Changes Decision g old r new (λ x. MayBeRetired (state_of old) policy (durable_of g.seen old) x)
  -- as of a deletion
  pub full : IsTrue (g.is_honest old.disk) → r ≡ Err JournalFull → IsLastGeneration (state_of old)
  pub untouched : RetireSpares r old.disk new.disk
  pub superblock : KeepsSuperblock g old.disk new.disk

-- Retire for a stream of this name. If a case that stays has the name, nothing
-- is done; otherwise it is `retire`, and if that is done, no case has the name.
abbrev pub RetireForCall : {D : Type 0} → disk.Ghosts D → Parts D → Policy → List ℕ → Option (Result Decision ArchiveFault) → Parts D → Type 0
RetireForCall g old policy name None new =
    (new ≡ old) × KeepsTheName (state_of old) policy name true × (is_named name (state_of old).cases ≡ true)
RetireForCall g old policy name (Some r) new = RetireCall g old policy r new × IfOk r (λ d. is_named name (state_of new).cases ≡ false)

pub record ImageCall {D : Type 0} (g : disk.Ghosts D) (old : Parts D) (seq : ℕ) (r : Result (Vec ℕ Global) ArchiveFault) (new : Parts D) : Type 0 where
  pub step : ImageStep (state_of old) seq r (state_of new)
  pub bytes : IsTrue (g.is_honest old.disk) → ImageBytes (state_of old) (contents_of g.seen old) seq r (contents_of g.seen new)
  pub cause : HasDiskCause g old r new
  -- on any disk it has the case's length
  pub long : IfOk r (λ image. (c : Case) → case_numbered seq (state_of old).cases ≡ Some c → vec_len image ≡ c.len)
  -- reads give the same bytes as before
  pub quiet : OnlyReads g old.disk new.disk
  pub stays : ChangesNoCase g old new
  pub untouched : RefusalSpares {T = Vec ℕ Global} r old.disk new.disk

-- close: the disk. Unless a disk fault has stopped the archive, both the reads of the disk and a crash give the cases that the archive
-- shows.
pub record CloseCall {D : Type 0} (g : disk.Ghosts D) (old : Parts D) (let_go : D) : Type 0 where
  pub disk : let_go ≡ old.disk
  pub stands : old.stopped ≡ false → IsTrue (g.is_honest let_go) → StandsFor (g.seen let_go) (durable_of g.seen old)
  pub left : old.stopped ≡ false → IsTrue (g.is_honest let_go) → (c : List ℕ) → g.may_leave let_go c → StandsFor c (durable_of g.seen old)
