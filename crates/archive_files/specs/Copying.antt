-- Archives that are copied onto new disks, and the report.
use Rattle.std.specs.Prelude.{◌≡◌, ℕ, ◌+◌, nat_lt, if◌then◌else◌, Option, None, Some, Result, Ok, Err}
use Rattle.archive_care.specs.Copied.{CopyCall}
use Rattle.archive_care.specs.declared.copying.CopyWish.{CopyWish}
use Rattle.archive_care.specs.declared.faults.CopyFault.{CopyFault}
use Rattle.archive_care.specs.declared.faults.CopyFault.TheVariants as care
use Rattle.disk_model.specs.declared.disk.Disk as disk
use Rattle.intake.specs.declared.faults.ArchiveFault.TheVariants as archive
use Rattle.shared_disk.specs.Looks.{under}
use Rattle.shared_disk.specs.declared.shared.SharedDisk as shared
use Rattle.shared_disk.specs.declared.unlocked.Unlocked.{Unlocked}
use Rattle.archive_files.specs.UnlockedAsks.{LeavesAllThere}
use Rattle.archive_files.specs.UnlockedPlaces.{FindsCases}
use Rattle.archive_files.specs.declared.unlocked_places.Places.{Places}
use Rattle.archive_files.specs.declared.failures.Refusal.{Refusal}
use Rattle.archive_files.specs.declared.failures.Refusal.TheVariants.{BadShape, OutOfMemory, Disk, Open, Call}

-- why an archive was not copied
abbrev pub copy_refusal : CopyFault → Refusal
copy_refusal (care.Open fault) = Open fault
copy_refusal care.BadShape = BadShape
copy_refusal care.SpaceFull = Call archive.SpaceFull
copy_refusal care.JournalFull = Call archive.JournalFull
copy_refusal care.OutOfMemory = OutOfMemory
copy_refusal care.Source = Call archive.Disk
copy_refusal care.Target = Disk

abbrev pub copy_told : Result (Unit {0}) CopyFault → Result (Unit {0}) Refusal
copy_told (Ok u) = Ok u
copy_told (Err fault) = Err (copy_refusal fault)

-- An archive is copied onto a new disk, as a wish says, and the outcome is reported.
abbrev pub CopiesDisk : {D N : Type 0} → disk.Ghosts D → disk.Ghosts N → CopyWish → D → N → Result (Unit {0}) Refusal → D → N → Type 0
CopiesDisk g h wanted from onto r from' onto' =
    (done : Result (Unit {0}) CopyFault) × CopyCall g h wanted from from' onto onto' done × (r ≡ copy_told done)

-- The next try after a copy was refused: halves of one block more, if the records of the cases leave no room in a half and no size of a
-- half is asked for.
abbrev pub larger_wish : Option ℕ → CopyWish → Refusal → Option CopyWish
larger_wish None wish (Call archive.JournalFull) =
    if nat_lt wish.shape.half_blocks 4096 then Some (record wish { shape = record wish.shape { half_blocks = wish.shape.half_blocks + 1 } }) else None
larger_wish half wish refusal = None

-- The archive on a disk is copied, as a wish says, and that disk is handed back.
abbrev pub IsCopied : {D N : Type 0} → disk.Ghosts D → disk.Ghosts N → CopyWish → D → D → Type 0
IsCopied {N = N} g h wanted from from' = (onto onto' : N) × CopiesDisk g h wanted from onto (Ok tt) from' onto'

-- Each case that a look has found is there at the next look.
abbrev pub StayThere : {S : Type 0} (g : shared.Ghosts S) → disk.Ghosts (Unlocked S g) → S → Type 0
StayThere {S} g U s =
    (front : Unlocked S g) × (places : Places) × (under front ≡ s) × FindsCases U front (Ok places) × LeavesAllThere g U s places.numbers.items (Ok tt)
