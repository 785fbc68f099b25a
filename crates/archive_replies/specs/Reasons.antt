-- The names of refusals in replies.
use Rattle.std.specs.Prelude.{ℕ, List, codes}
use Rattle.intake.specs.declared.faults.ArchiveFault.{ArchiveFault}
use Rattle.intake.specs.declared.faults.ArchiveFault.TheVariants.{Stopped, BadSlot, SlotBusy, NameTaken, NoStream, TooLong, SpaceFull, NoCase, Pinned, JournalFull, NumbersSpent, OutOfMemory, Disk, OldVersion}

-- the name of a refusal
abbrev pub reason_of : ArchiveFault → List ℕ
reason_of Stopped = codes "Stopped"
reason_of BadSlot = codes "BadSlot"
reason_of SlotBusy = codes "SlotBusy"
reason_of NameTaken = codes "NameTaken"
reason_of NoStream = codes "NoStream"
reason_of TooLong = codes "TooLong"
reason_of SpaceFull = codes "SpaceFull"
reason_of NoCase = codes "NoCase"
reason_of Pinned = codes "Pinned"
reason_of JournalFull = codes "JournalFull"
reason_of NumbersSpent = codes "NumbersSpent"
reason_of OutOfMemory = codes "OutOfMemory"
reason_of Disk = codes "Disk"
reason_of OldVersion = codes "OldVersion"
