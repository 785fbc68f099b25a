-- The disk after a refusal.
use Rattle.std.specs.Prelude.{◌≡◌}
use Rattle.case_journal.specs.declared.faults.JournalFault.{JournalFault}
use Rattle.case_journal.specs.declared.faults.JournalFault.TheVariants.{Disk}

-- all refusals but that of the disk leave it as it is
abbrev pub LeavesDisk : {D : Type 0} → JournalFault → D → D → Type 0
LeavesDisk Disk old new = Unit {0}
LeavesDisk _ old new = new ≡ old
