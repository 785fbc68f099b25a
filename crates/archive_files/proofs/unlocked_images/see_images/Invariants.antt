use Rattle.std.proofs.Common.{map, take}
use Rattle.journal_layout.specs.Case.{case_of}
use Rattle.archive_files.specs.UnlockedImages.{AreSeen, IsRead}
use Rattle.archive_files.proofs.unlocked_images.see_images.Given as goal

-- the cases whose images were read
abbrev pub invariant-loop-entry : goal.invariant-loop-entry
invariant-loop-entry g l = AreSeen (IsRead g.S.SharedDisk g.D.Disk l.looked.shared l.fn.archive) (map case_of (take l.entry-index l.entries)) l.seen.items
