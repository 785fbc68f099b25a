-- The digest of an image that is read between two looks at its disk.
use Rattle.std.specs.Prelude.{◌≡◌, ◌⊎◌, ℕ, true, List, [], ◌∷◌, ◌++◌, ◌-◌, ◌^◌, length, decimal, codes, Option, None, Some, is_some, Result, Ok, Err, IsTrue}
use Rattle.archive_files.specs.Looking.{unlocked_told}
use Rattle.archive_files.specs.declared.failures.Failure.{Failure}
use Rattle.archive_files.specs.declared.failures.Failure.TheVariants.{Aside, Faulted}
use Rattle.archive_files.specs.declared.failures.Refusal.{Refusal}
use Rattle.disk_model.specs.declared.disk.Disk as disk
use Rattle.inspector_cli.specs.declared.copying.CopyFault.TheVariants as copy
use Rattle.inspector_cli.specs.declared.session.SessionFault.TheVariants.{WriteFailed}
use Rattle.intake.specs.Calls.{OpenCall}
use Rattle.intake.specs.Durable.{Durable, FoundCase, StandsFor}
use Rattle.intake.specs.InTurn.{last_state}
use Rattle.intake.specs.Opened.{CaseReply}
use Rattle.intake.specs.Parts.{Parts}
use Rattle.intake.specs.Ranges.{Locates, RangesReply, bytes_in}
use Rattle.intake.specs.declared.faults.ArchiveFault.{ArchiveFault}
use Rattle.intake.specs.declared.faults.ArchiveFault.TheVariants.{NoCase, OutOfMemory}
use Rattle.intake.specs.declared.ranges.ByteRange.{ByteRange}
use Rattle.script_streams.specs.Printing.{IsDelivered}
use Rattle.script_streams.specs.declared.streams.StreamFault.{StreamFault}
use Rattle.script_streams.specs.declared.streams.Output as output
use Rattle.script_words.specs.Hex.{hex_of}
use Rattle.script_words.specs.Number.{number_of, number_within}
use Rattle.sha2.specs.Sha256.{sha256}
use Rattle.shared_disk.specs.Looks.{shared_of}
use Rattle.shared_disk.specs.Meanwhile.{EndsWith}
use Rattle.shared_disk.specs.Steady.{are_steady}
use Rattle.shared_disk.specs.declared.looked.Looked.{Looked}
use Rattle.shared_disk.specs.declared.shared.SharedDisk as shared
use Rattle.shared_disk.specs.declared.unlocked.Unlocked.{Unlocked}
use Rattle.archive_files.specs.UnlockedCopies.{Meanwhile}
use Rattle.archive_files.specs.History.{HasNone, HasOne, IsNumbered}
use Rattle.archive_files.specs.Opening.{RefusesAgain, RefusesOpening}
use Rattle.archive_files.specs.declared.unlocked_faults.UnlockedFault.{UnlockedFault}
use Rattle.archive_files.specs.declared.unlocked_faults.UnlockedFault.TheVariants as fault
use Rattle.case_listing.specs.declared.digest_command.CaseWord.{CaseWord}
use Rattle.case_listing.specs.declared.digest_command.CaseWord.TheVariants.{Name, Number}
use Rattle.case_listing.specs.declared.digest_walk.Image.{Image}
use Rattle.case_listing.specs.declared.digest_walk.ImageDigest.{ImageDigest}

-- the digest of these bytes, and how many they are
abbrev pub IsDigestOf : List ℕ → ImageDigest → Type 0
IsDigestOf image digest = (digest.sha256 ≡ sha256 image) × (digest.length ≡ length image)

-- The digest is that of the case's image, and the case was there all the time. Each refusal has its reason.
abbrev pub DigestsUnlocked : {S : Type 0} (g : shared.Ghosts S) → disk.Ghosts (Unlocked S g) → S → ℕ → Result ImageDigest UnlockedFault → Type 0
DigestsUnlocked g U s seq (Ok digest) = Meanwhile g s (λ x ys. (c : FoundCase) × IsNumbered x seq c × IsDigestOf c.image digest)
DigestsUnlocked g U s seq (Err (fault.Open f)) = RefusesOpening g U s f
DigestsUnlocked g U s seq (Err (fault.Archive NoCase)) = Meanwhile g s (λ x ys. HasNone x seq)
DigestsUnlocked g U s seq (Err (fault.Archive OutOfMemory)) = Unit {0}
DigestsUnlocked g U s seq (Err (fault.Archive _)) = ⊥
DigestsUnlocked g U s seq (Err (fault.Copy copy.Disk)) = Unit {0}
DigestsUnlocked g U s seq (Err (fault.Copy _)) = ⊥
DigestsUnlocked g U s seq (Err fault.Gone) = Meanwhile g s (λ x ys. HasNone (last_state x ys) seq)
DigestsUnlocked g U s seq (Err (fault.Look f)) = Unit {0}
DigestsUnlocked g U s seq (Err (fault.Reopen f)) = RefusesAgain g U s f

-- where the image of a case lies, and how long it is, or why that is not known
abbrev pub HasImage : {D : Type 0} → disk.Ghosts D → Parts D → ℕ → Result Image ArchiveFault → Type 0
HasImage g a seq (Ok image) = (l : Locates g a seq image.ranges.items) × (image.length ≡ l.found.len)
HasImage g a seq (Err f) = RangesReply g a seq (Err f)

-- the same by an opening of a disk
abbrev pub FindsImage : {D : Type 0} → disk.Ghosts D → D → ℕ → Result Image UnlockedFault → Type 0
FindsImage {D} g before seq (Ok image) = (a : Parts D) × OpenCall g 0 before (Ok a) × HasImage g a seq (Ok image)
FindsImage {D} g before seq (Err (fault.Open f)) = (after : D) × OpenCall g 0 before (Err (f, after))
FindsImage {D} g before seq (Err (fault.Archive f)) = (a : Parts D) × OpenCall g 0 before (Ok a) × RangesReply g a seq (Err f)
FindsImage g before seq (Err _) = ⊥

-- If nobody changes these ranges meanwhile, the digest is that of their bytes. The length is this one.
pub record IsOfRanges {S : Type 0} (g : shared.Ghosts S) (s : S) (ranges : List ByteRange) (len : ℕ) (digest : ImageDigest) : Type 0 where
  pub bytes : IsTrue (g.is_honest s) → are_steady ranges (g.looked s) (g.meanwhile s) ≡ true → digest.sha256 ≡ sha256 (bytes_in (g.looked s) ranges)
  pub count : digest.length ≡ len

-- the reading was stopped by the disk, or there was no memory for it
abbrev pub IsReadStop : UnlockedFault → Type 0
IsReadStop (fault.Archive OutOfMemory) = Unit {0}
IsReadStop (fault.Copy copy.Disk) = Unit {0}
IsReadStop _ = ⊥

-- the archive at the next look has a case of this number
abbrev pub StaysThere : {S : Type 0} → shared.Ghosts S → S → ℕ → Type 0
StaysThere g s seq = IsTrue (g.is_honest s) → (b : List ℕ) × EndsWith (g.meanwhile s) b × ((z : Durable) → StandsFor b z → HasOne z seq)

-- the archive at the next look has no case of this number
abbrev pub IsGone : {S : Type 0} → shared.Ghosts S → S → ℕ → Type 0
IsGone g s seq = IsTrue (g.is_honest s) → (b : List ℕ) × EndsWith (g.meanwhile s) b × ((z : Durable) → StandsFor b z → HasNone z seq)

-- The archive is looked at again: whether a case of this number is there by then, or why nobody can say.
abbrev pub LeavesThere : {S : Type 0} (g : shared.Ghosts S) → disk.Ghosts (Unlocked S g) → S → ℕ → Result (Unit {0}) UnlockedFault → Type 0
LeavesThere g U s seq (Ok u) = StaysThere g s seq
LeavesThere g U s seq (Err fault.Gone) = IsGone g s seq
LeavesThere g U s seq (Err (fault.Look f)) = Unit {0}
LeavesThere g U s seq (Err (fault.Reopen f)) = RefusesAgain g U s f
LeavesThere g U s seq (Err _) = ⊥

-- ---- The cases that are asked for, and the text that is printed.

-- A word that is the number of a case says that; any other that is no number says a name.
abbrev pub IsNumberSaid : List ℕ → Option CaseWord → Type 0
IsNumberSaid word (Some (Number seq)) = number_within 1 (2 ^ 32 - 1) word ≡ Some seq
IsNumberSaid word (Some (Name name)) = (name.now ≡ word) × (number_of word ≡ None)
IsNumberSaid word None = (number_within 1 (2 ^ 32 - 1) word ≡ None) × (is_some (number_of word) ≡ true)

-- the bytes that an output has taken, and how many of its calls have failed
pub record Printed : Type 0 where
  pub taken : Option (List ℕ)
  pub failures : ℕ

abbrev pub printed : {O : Type 0} → output.Ghosts O → O → Printed
printed o out = record { taken = o.taken out; failures = o.failures out }

-- `SHA256 LENGTH N`
abbrev pub digest_line : ℕ → ImageDigest → List ℕ
digest_line seq digest = hex_of digest.sha256 ++ (codes " " ++ (decimal digest.length ++ (codes " " ++ (decimal seq ++ codes "\n"))))

abbrev pub sent_as : Result (Unit {0}) StreamFault → Result (Unit {0}) Failure
sent_as (Ok u) = Ok tt
sent_as (Err f) = Err (Faulted WriteFailed)

-- the line is printed, or a front of it until the output failed
abbrev pub PrintsDigest : ℕ → ImageDigest → Printed → Printed → Result (Unit {0}) Failure → Type 0
PrintsDigest seq digest old new r =
    (sent : Result (Unit {0}) StreamFault) × IsDelivered old.taken old.failures new.taken new.failures (digest_line seq digest) sent × (r ≡ sent_as sent)

-- The line of a case is printed, from a look at its archive on; or it is reported why there is no digest, and nothing is printed.
abbrev pub PrintsLooked : {S : Type 0} (g : shared.Ghosts S) → disk.Ghosts (Unlocked S g) → ℕ → Result (Looked S g) Refusal → Printed → Printed → Result (Unit {0}) Failure → Type 0
PrintsLooked g U seq (Err refusal) old new r = (r ≡ Err (Aside refusal)) × (new ≡ old)
PrintsLooked g U seq (Ok looked) old new r =
    ((digest : ImageDigest) × DigestsUnlocked g U (shared_of looked) seq (Ok digest) × PrintsDigest seq digest old new r)
    ⊎ ((fault : UnlockedFault) × DigestsUnlocked g U (shared_of looked) seq (Err fault) × (r ≡ Err (unlocked_told fault)) × (new ≡ old))

-- the same from some look, if there was one
abbrev pub PrintsCase : {S : Type 0} (g : shared.Ghosts S) → disk.Ghosts (Unlocked S g) → ℕ → Printed → Printed → Result (Unit {0}) Failure → Type 0
PrintsCase {S} g U seq old new r = (looked : Result (Looked S g) Refusal) × PrintsLooked g U seq looked old new r
