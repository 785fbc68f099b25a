-- The work over the archive on a disk that was taken from its file, or the reason why it was not taken.
use Rattle.std.specs.Prelude.{◌≡◌, ℕ, List, Option, Some, None, Result, Ok, Err}
use Rattle.case_journal.specs.Viewing.{OnlyReads}
use Rattle.disk_model.specs.declared.disk.Disk as disk
use Rattle.archive_files.specs.declared.failures.Failure.{Failure}
use Rattle.archive_files.specs.declared.failures.Failure.TheVariants.{Refused}
use Rattle.archive_files.specs.declared.failures.Refusal.{Refusal}
use Rattle.archive_files.specs.declared.storing.StoreRequest.{StoreRequest}
use Rattle.archive_files.specs.OverDisks.{LooksOnDisk, StoresFile}

-- A file is stored in the archive on the disk that was taken, and the disk is handed on. If no disk was taken, that is reported, and the output
-- is not touched.
abbrev pub StoresTaken : {D : Type 0} → disk.Ghosts D → StoreRequest → Option (List ℕ) → Option (List ℕ) → Option (List ℕ) → ℕ → ℕ → Result D Refusal → Result (Unit {0}) Failure → Option D → Type 0
StoresTaken {D} g request file taken taken' lost lost' (Ok before) r left = (after : D) × (left ≡ Some after) × StoresFile g request file taken taken' lost lost' before r after
StoresTaken g request file taken taken' lost lost' (Err refusal) r left = (r ≡ Err (Refused refusal)) × (left ≡ None) × (taken' ≡ taken) × (lost' ≡ lost)

-- why a file is refused, if this was found of its archive: a fault of the archive comes first
abbrev pub refused_after : Result (Unit {0}) Refusal → Refusal → Result (Unit {0}) Failure
refused_after (Ok u) refusal = Err (Refused refusal)
refused_after (Err damage) refusal = Err (Refused damage)

-- A file is refused: the archive on the disk that was taken is opened, and no more.
abbrev pub RefusesTaken : {D : Type 0} → disk.Ghosts D → ℕ → Refusal → Result D Refusal → Result (Unit {0}) Failure → Option D → Type 0
RefusesTaken {D} g limit refusal (Ok before) r left =
    (after : D) × (looked : Result (Unit {0}) Refusal) × (left ≡ Some after) × LooksOnDisk g limit before looked after × (r ≡ refused_after looked refusal)
RefusesTaken g limit refusal (Err untaken) r left = (r ≡ Err (Refused untaken)) × (left ≡ None)

-- The disk that was taken, if one was, is only read; and the refusal that was there instead stays.
abbrev pub OnlyReadsTaken : {D : Type 0} → disk.Ghosts D → Result D Refusal → Result D Refusal → Type 0
OnlyReadsTaken g (Ok before) (Ok after) = OnlyReads g before after
OnlyReadsTaken g (Ok before) (Err refusal) = ⊥
OnlyReadsTaken g (Err refusal) new = new ≡ Err refusal
