-- The effect of copying bytes from one disk to another on both.
use Rattle.std.specs.Prelude.{ℕ, ◌≤◌, Result, Ok, Err}
use Rattle.disk_model.specs.Disk.{HasRisen}
use Rattle.disk_model.specs.declared.disk.Disk as disk
use Rattle.case_journal.specs.Viewing.{OnlyReads}
use Rattle.journal_snapshot.specs.Filling.{Fills}
use Rattle.archive_care.specs.declared.faults.CopyFault.{CopyFault}
use Rattle.archive_care.specs.declared.faults.CopyFault.TheVariants.{Source, Target}

-- The one disk is only read. Of the other the n bytes from place at on are written, and nothing else.
pub record CopiesBytes {D N : Type 0} (g : disk.Ghosts D) (h : disk.Ghosts N) (from from' : D) (onto onto' : N) (at n : ℕ) : Type 0 where
  pub quiet : OnlyReads g from from'
  pub fills : Fills h onto onto' at n
  pub later : g.failures from ≤ g.failures from'
  pub later_onto : h.failures onto ≤ h.failures onto'

-- Only the disk that failed is blamed: its count of failures rose.
abbrev pub CopyCause : {D N T : Type 0} → disk.Ghosts D → disk.Ghosts N → D → D → N → N → Result T CopyFault → Type 0
CopyCause g h from from' onto onto' (Ok x) = Unit {0}
CopyCause g h from from' onto onto' (Err Source) = HasRisen (g.failures from) (g.failures from')
CopyCause g h from from' onto onto' (Err Target) = HasRisen (h.failures onto) (h.failures onto')
CopyCause g h from from' onto onto' (Err _) = ⊥
