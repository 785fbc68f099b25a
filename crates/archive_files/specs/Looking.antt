-- The report if an archive could not be looked at, or if an image was not copied while others may change it.
use Rattle.std.specs.Prelude.{◌≡◌, ℕ, Bool, true, false, List, Option, Result, Ok, Err}
use Rattle.disk_model.specs.declared.disk.Disk as disk
use Rattle.disk_model.specs.declared.file_fault.FileFault.{FileFault}
use Rattle.disk_model.specs.declared.file_fault.FileFault.TheVariants as file
use Rattle.inspector_cli.specs.declared.copying.CopyFault.{CopyFault}
use Rattle.inspector_cli.specs.declared.copying.CopyFault.TheVariants as copy
use Rattle.inspector_cli.specs.declared.session.SessionFault.TheVariants.{WriteFailed}
use Rattle.intake.specs.declared.faults.ArchiveFault.TheVariants.{Disk, NoCase}
use Rattle.shared_disk.specs.Looks.{shared_of}
use Rattle.shared_disk.specs.declared.looked.Looked.{Looked}
use Rattle.shared_disk.specs.declared.shared.LookFault.{LookFault}
use Rattle.shared_disk.specs.declared.shared.LookFault.TheVariants as look
use Rattle.shared_disk.specs.declared.shared.SharedDisk as shared
use Rattle.shared_disk.specs.declared.unlocked.Unlocked.{Unlocked}
use Rattle.archive_files.specs.UnlockedCopies.{CopiesUnlocked}
use Rattle.archive_files.specs.declared.unlocked_faults.UnlockedFault.{UnlockedFault}
use Rattle.archive_files.specs.declared.unlocked_faults.UnlockedFault.TheVariants as unlocked
use Rattle.archive_files.specs.declared.failures.Failure.{Failure}
use Rattle.archive_files.specs.declared.failures.Failure.TheVariants.{Aside, Faulted}
use Rattle.archive_files.specs.declared.failures.FileWord.TheVariants.{Archive}
use Rattle.archive_files.specs.declared.failures.Refusal.{Refusal}
use Rattle.archive_files.specs.declared.failures.Refusal.TheVariants.{File, Open, Call}
use Rattle.archive_files.specs.declared.over_disk.Unfinished.{Unfinished}

abbrev pub look_fault : LookFault → FileFault
look_fault look.Busy = file.Busy
look_fault look.Lock = file.Lock
look_fault look.Read = file.Settle
look_fault look.OutOfMemory = file.OutOfMemory

-- The refusal of an image goes to the errors, and not to the image.
abbrev pub copy_told : CopyFault → Failure
copy_told (copy.Open f) = Aside (Open f)
copy_told (copy.Archive f) = Aside (Call f)
copy_told copy.Disk = Aside (Call Disk)
copy_told copy.Output = Faulted WriteFailed

-- A case that is gone is reported as if it had never been there.
abbrev pub unlocked_told : UnlockedFault → Failure
unlocked_told (unlocked.Open f) = Aside (Open f)
unlocked_told (unlocked.Archive f) = Aside (Call f)
unlocked_told (unlocked.Copy f) = copy_told f
unlocked_told (unlocked.Look f) = Aside (File Archive (look_fault f))
unlocked_told (unlocked.Reopen f) = Aside (Open f)
unlocked_told unlocked.Gone = Aside (Call NoCase)

-- The case is known to have been there all the time that it was read.
abbrev pub was_there : UnlockedFault → Bool
was_there (unlocked.Look f) = false
was_there (unlocked.Reopen f) = false
was_there unlocked.Gone = false
was_there _ = true

-- how a copy ended
abbrev pub copy_ended : Result (Unit {0}) UnlockedFault → Result (Unit {0}) Unfinished
copy_ended (Ok u) = Ok tt
copy_ended (Err f) = Err (record { failure = unlocked_told f; is_front = was_there f })

-- The image of a case is copied from a look at its archive on. If there was no look, that is reported, and the output is not touched.
abbrev pub CopiesLooked : {S : Type 0} (g : shared.Ghosts S) → disk.Ghosts (Unlocked S g) → ℕ → Option (List ℕ) → Option (List ℕ) → ℕ → ℕ → Result (Looked S g) Refusal → Result (Unit {0}) Unfinished → Type 0
CopiesLooked g U seq taken taken' lost lost' (Ok looked) r = (copied : Result (Unit {0}) UnlockedFault) × CopiesUnlocked g U (shared_of looked) seq taken taken' lost lost' copied × (r ≡ copy_ended copied)
CopiesLooked g U seq taken taken' lost lost' (Err refusal) r = (r ≡ Err (record { failure = Aside refusal; is_front = true })) × (taken' ≡ taken) × (lost' ≡ lost)

-- The image of a case was copied to an output that had taken so much, and failed so often, from a look at its archive on, if there was one.
abbrev pub CopiesTaken : {S : Type 0} (g : shared.Ghosts S) → disk.Ghosts (Unlocked S g) → ℕ → Option (List ℕ) → ℕ → Result (Unit {0}) Unfinished → Type 0
CopiesTaken {S} g U seq taken lost r =
    (looked : Result (Looked S g) Refusal) × (taken' : Option (List ℕ)) × (lost' : ℕ) × CopiesLooked g U seq taken taken' lost lost' looked r

-- the report that an image was copied, or why it was not
abbrev pub extract_told : Result (Unit {0}) Unfinished → Result (Unit {0}) Failure
extract_told (Ok u) = Ok u
extract_told (Err unfinished) = Err unfinished.failure

abbrev pub ExtractsTaken : {S : Type 0} (g : shared.Ghosts S) → disk.Ghosts (Unlocked S g) → ℕ → Option (List ℕ) → ℕ → Result (Unit {0}) Failure → Type 0
ExtractsTaken g U seq taken lost r = (copied : Result (Unit {0}) Unfinished) × CopiesTaken g U seq taken lost copied × (r ≡ extract_told copied)
