-- How a fault of the journal is answered by the archive.
use Rattle.case_journal.specs.declared.faults.JournalFault.{JournalFault}
use Rattle.case_journal.specs.declared.faults.JournalFault.TheVariants as journal
use Rattle.intake.specs.declared.faults.ArchiveFault.{ArchiveFault}
use Rattle.intake.specs.declared.faults.ArchiveFault.TheVariants.{Stopped, JournalFull, NumbersSpent, OutOfMemory, Disk, OldVersion}

abbrev pub fault_of : JournalFault → ArchiveFault
fault_of journal.Stopped = Stopped
fault_of journal.JournalFull = JournalFull
fault_of journal.NumbersSpent = NumbersSpent
fault_of journal.OutOfMemory = OutOfMemory
fault_of journal.Disk = Disk
fault_of journal.OldVersion = OldVersion
