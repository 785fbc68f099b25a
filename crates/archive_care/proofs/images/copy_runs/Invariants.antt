use Rattle.std.proofs.Common.{◌≡◌, ◌+◌, ◌*◌, IsTrue, length, take}
use Rattle.disk_model.specs.Places.{part}
use Rattle.extents.specs.Runs.{blocks_of}
use Rattle.intake.specs.Blocks.{joined}
use Rattle.archive_care.specs.Bytes.{CopiesBytes}
use Rattle.archive_care.proofs.images.copy_runs.Given as goal

-- the first runs are copied
abbrev pub invariant-loop-run : goal.invariant-loop-run
invariant-loop-run g l = record {
  copies : CopiesBytes g.D.Disk g.N.Disk l.initial.from l.from l.initial.onto l.onto l.target (4096 * length (blocks_of l.runs));
  place : l.at ≡ l.target + 4096 * length (blocks_of (take l.run-index l.runs));
  there : IsTrue (g.D.Disk.is_honest l.initial.from) → IsTrue (g.N.Disk.is_honest l.initial.onto)
      → part (g.N.Disk.seen l.onto) l.target (4096 * length (blocks_of (take l.run-index l.runs))) ≡ joined l.shape (g.D.Disk.seen l.initial.from) (blocks_of (take l.run-index l.runs));
}
