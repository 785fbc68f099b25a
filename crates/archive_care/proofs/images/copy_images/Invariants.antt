use Rattle.std.proofs.Common.{◌≡◌, ◌+◌, ◌*◌, IsTrue, length, map, take}
use Rattle.disk_model.specs.Places.{part}
use Rattle.intake.specs.Blocks.{joined}
use Rattle.journal_layout.specs.Case.{case_of}
use Rattle.journal_layout.specs.Folding.{used_blocks}
use Rattle.archive_care.specs.Bytes.{CopiesBytes}
use Rattle.archive_care.proofs.images.copy_images.Given as goal

-- the first images are copied
abbrev pub invariant-loop-entry : goal.invariant-loop-entry
invariant-loop-entry g l = record {
  copies : CopiesBytes g.D.Disk g.N.Disk l.initial.from l.from l.initial.onto l.onto l.target (4096 * length (used_blocks (map case_of l.entries)));
  place : l.at ≡ l.target + 4096 * length (used_blocks (map case_of (take l.entry-index l.entries)));
  there : IsTrue (g.D.Disk.is_honest l.initial.from) → IsTrue (g.N.Disk.is_honest l.initial.onto)
      → part (g.N.Disk.seen l.onto) l.target (4096 * length (used_blocks (map case_of (take l.entry-index l.entries)))) ≡ joined l.shape (g.D.Disk.seen l.initial.from) (used_blocks (map case_of (take l.entry-index l.entries)));
}
