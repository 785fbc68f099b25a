-- The report of a check on whether an archive is sound.
use Rattle.std.specs.Prelude.{◌≡◌, ◌/◌, ◌++◌, ℕ, Bool, List, [], Option, None, Some, Result, Ok, Err, codes, decimal}
use Rattle.std.specs.Io.KnownBytes.{append_known}
use Rattle.archive_checks.specs.Checking.{ChecksOnDisk}
use Rattle.archive_checks.specs.declared.checking.CheckFault.{CheckFault}
use Rattle.archive_checks.specs.declared.checking.CheckFault.TheVariants as check
use Rattle.disk_model.specs.declared.disk.Disk as disk
use Rattle.journal_layout.specs.declared.faults.OpenFault.{OpenFault}
use Rattle.journal_layout.specs.declared.faults.OpenFault.TheVariants as opening
use Rattle.shared_disk.specs.declared.shared.SharedDisk as shared
use Rattle.shared_disk.specs.declared.unlocked.Unlocked.{Unlocked}
use Rattle.archive_files.specs.UnlockedChecks.{ChecksUnlocked}
use Rattle.archive_files.specs.declared.unlocked_faults.UnlockedCheckFault.{UnlockedCheckFault}
use Rattle.archive_files.specs.declared.unlocked_faults.UnlockedCheckFault.TheVariants as stop
use Rattle.archive_files.specs.declared.failures.Failure.{Failure}
use Rattle.archive_files.specs.Looking.{look_fault}
use Rattle.archive_files.specs.Told.{EndsHeld}
use Rattle.archive_files.specs.declared.failures.Failure.TheVariants.{Refused, Faulted}
use Rattle.archive_files.specs.declared.failures.FileWord.TheVariants as word
use Rattle.archive_files.specs.declared.failures.Refusal.{Refusal}
use Rattle.archive_files.specs.declared.failures.Refusal.TheVariants.{Open, Call, File}
use Rattle.inspector_cli.specs.declared.session.SessionFault.TheVariants.{WriteFailed}

abbrev pub check_told : Result (Unit {0}) CheckFault → Result (Unit {0}) Failure
check_told (Ok u) = Ok u
check_told (Err (check.Open fault)) = Err (Refused (Open fault))
check_told (Err (check.Archive fault)) = Err (Refused (Call fault))
check_told (Err check.Output) = Err (Faulted WriteFailed)

-- The archive on the disk that was taken is checked, and the disk is handed on. If no disk was taken, that is reported, and the output is not
-- touched.
abbrev pub ChecksTaken : {D : Type 0} → disk.Ghosts D → Bool → Option (List ℕ) → Option (List ℕ) → ℕ → ℕ → Result D Refusal → Result (Unit {0}) Failure → Option D → Type 0
ChecksTaken {D} g sees taken taken' lost lost' (Ok before) r left =
    (after : D) × (checked : Result (Unit {0}) CheckFault) × (left ≡ Some after) × ChecksOnDisk g sees taken taken' lost lost' before checked after × (r ≡ check_told checked)
ChecksTaken g sees taken taken' lost lost' (Err refusal) r left = (r ≡ Err (Refused refusal)) × (left ≡ None) × (taken' ≡ taken) × (lost' ≡ lost)

-- The archive is checked under its lock, if it was possible to take it, and the report is held meanwhile, for an output that had taken so much.
abbrev pub ChecksHeld : {D : Type 0} → disk.Ghosts D → Bool → Option (List ℕ) → Result (Unit {0}) Failure → Type 0
ChecksHeld {D} g sees before r =
    (taken : Result D Refusal) × (after : Option (List ℕ)) × (lost lost' : ℕ) × (checked : Result (Unit {0}) Failure) × (left : Option D)
    × ChecksTaken g sees (append_known before []) after lost lost' taken checked left × EndsHeld checked r

-- The report on whether an archive that was looked at is sound. An archive that can't be opened has none here.
abbrev pub looked_told : Result (Unit {0}) UnlockedCheckFault → Option (Result (Unit {0}) Failure)
looked_told (Ok u) = Some (Ok u)
looked_told (Err (stop.Open fault)) = None
looked_told (Err (stop.Reopen fault)) = None
looked_told (Err (stop.Archive fault)) = Some (Err (Refused (Call fault)))
looked_told (Err (stop.Look fault)) = Some (Err (Refused (File word.Archive (look_fault fault))))
looked_told (Err stop.Output) = Some (Err (Faulted WriteFailed))

-- The archive is checked from a look at it on, while others may change it.
abbrev pub ChecksLooked : {S : Type 0} (g : shared.Ghosts S) → disk.Ghosts (Unlocked S g) → Bool → Option (List ℕ) → Option (List ℕ) → ℕ → ℕ → S → Option (Result (Unit {0}) Failure) → Type 0
ChecksLooked g U sees taken taken' lost lost' s r =
    (checked : Result (Unit {0}) UnlockedCheckFault) × ChecksUnlocked g U s sees taken taken' lost lost' checked × (r ≡ looked_told checked)

-- the line that says in which block the gate is that may hide records
unfoldable pub hidden_line : OpenFault → List ℕ
hidden_line (opening.Damaged at field) = codes "damaged in block " ++ (decimal (at / 4096) ++ codes ": a gate that may hide the records after it\n")
hidden_line _ = []
