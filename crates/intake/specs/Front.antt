-- The bytes before the data blocks after a call: the superblock, and both halves of the journal.
use Rattle.std.specs.Prelude.{◌≡◌, take, Result, Ok, Err, IsTrue}
use Rattle.disk_model.specs.declared.disk.Disk as disk
use Rattle.journal_layout.specs.declared.shape.Shape.{Shape}
use Rattle.journal_layout.specs.Layout.{data_start}
use Rattle.intake.specs.declared.faults.ArchiveFault.{ArchiveFault}
use Rattle.intake.specs.declared.faults.ArchiveFault.TheVariants.{Disk}

-- the superblock reads as it did
abbrev pub KeepsSuperblock : {D : Type 0} → disk.Ghosts D → D → D → Type 0
KeepsSuperblock g old new = IsTrue (g.is_honest old) → take 4096 (g.seen new) ≡ take 4096 (g.seen old)

-- the journal stays as well: only data blocks are written
abbrev pub KeepsFront : {D : Type 0} → disk.Ghosts D → Shape → D → D → Type 0
KeepsFront g shape old new = IsTrue (g.is_honest old) → take (data_start shape) (g.seen new) ≡ take (data_start shape) (g.seen old)

-- a refusal but that of the disk writes data blocks alone
abbrev pub RefusalKeepsFront : {D : Type 0} {T : Type 0} → disk.Ghosts D → Shape → Result T ArchiveFault → D → D → Type 0
RefusalKeepsFront g shape (Ok x) old new = Unit {0}
RefusalKeepsFront g shape (Err Disk) old new = Unit {0}
RefusalKeepsFront g shape (Err _) old new = KeepsFront g shape old new
