-- The image of a case, copied from a look at its archive on, and the report if it was not.
use Rattle.std.specs.Prelude.{◌≡◌, ℕ, List, Option, Result, Ok, Err}
use Rattle.archive_files.specs.Asking.{unasked}
use Rattle.archive_files.specs.declared.failures.FileWord.{FileWord}
use Rattle.archive_files.specs.declared.failures.Refusal.{Refusal}
use Rattle.archive_files.specs.declared.failures.Refusal.TheVariants.{Call, File, Open}
use Rattle.disk_model.specs.declared.disk.Disk as disk
use Rattle.disk_model.specs.declared.file_fault.FileFault.{FileFault}
use Rattle.inspector_cli.specs.declared.copying.CopyFault.TheVariants as copy
use Rattle.intake.specs.declared.faults.ArchiveFault.TheVariants.{Disk, NoCase}
use Rattle.shared_disk.specs.Looks.{shared_of}
use Rattle.shared_disk.specs.declared.looked.Looked.{Looked}
use Rattle.shared_disk.specs.declared.shared.SharedDisk as shared
use Rattle.shared_disk.specs.declared.unlocked.Unlocked.{Unlocked}
use Rattle.archive_files.specs.UnlockedCopies.{CopiesUnlocked}
use Rattle.archive_files.specs.declared.unlocked_faults.AskFault.TheVariants as ask
use Rattle.archive_files.specs.declared.unlocked_faults.UnlockedFault.{UnlockedFault}
use Rattle.archive_files.specs.declared.unlocked_faults.UnlockedFault.TheVariants as unlocked
use Rattle.case_unpacking.specs.declared.copying.Uncopied.{Uncopied}
use Rattle.case_unpacking.specs.declared.copying.Uncopied.TheVariants.{Copy, Unseen}

-- why a copy was not done
abbrev pub copied_as : Result (Unit {0}) UnlockedFault → Result (Unit {0}) Uncopied
copied_as (Ok u) = Ok tt
copied_as (Err fault) = Err (Copy fault)

-- The image of a case is copied from a look at its archive on. If there was no look, that is the error, and the output is not touched.
abbrev pub CopiesCase : {S : Type 0} (g : shared.Ghosts S) → disk.Ghosts (Unlocked S g) → ℕ → Option (List ℕ) → Option (List ℕ) → ℕ → ℕ → Result (Looked S g) Refusal → Result (Unit {0}) Uncopied → Type 0
CopiesCase g U seq start taken count failures (Ok looked) r = (copied : Result (Unit {0}) UnlockedFault) × CopiesUnlocked g U (shared_of looked) seq start taken count failures copied × (r ≡ copied_as copied)
CopiesCase g U seq start taken count failures (Err refusal) r = (r ≡ Err (Unseen refusal)) × (taken ≡ start) × (failures ≡ count)

-- A case that is gone is reported like one that was never there.
abbrev pub IsTold : UnlockedFault → Refusal → Type 0
IsTold (unlocked.Open f) r = r ≡ Open f
IsTold (unlocked.Archive f) r = r ≡ Call f
IsTold (unlocked.Copy (copy.Open f)) r = r ≡ Open f
IsTold (unlocked.Copy (copy.Archive f)) r = r ≡ Call f
IsTold (unlocked.Copy copy.Disk) r = r ≡ Call Disk
IsTold (unlocked.Copy copy.Output) r = (word : FileWord) × (fault : FileFault) × (r ≡ File word fault)
IsTold (unlocked.Look f) r = r ≡ unasked (ask.Look f)
IsTold (unlocked.Reopen f) r = r ≡ Open f
IsTold unlocked.Gone r = r ≡ Call NoCase

abbrev pub IsToldOf : Uncopied → Refusal → Type 0
IsToldOf (Unseen refusal) r = r ≡ refusal
IsToldOf (Copy fault) r = IsTold fault r
