use Rattle.std.proofs.Common.{◌≡◌, ◌*◌, IsTrue}
use Rattle.disk_model.specs.Places.{part}
use Rattle.archive_care.specs.Bytes.{CopiesBytes}
use Rattle.archive_care.proofs.bytes.copy_blocks.Given as goal

-- the first blocks are copied
abbrev pub invariant-loop-done : goal.invariant-loop-done
invariant-loop-done g l = record {
  copies : CopiesBytes g.D.Disk g.N.Disk l.initial.from l.from l.initial.onto l.onto l.target (4096 * l.count);
  there : IsTrue (g.D.Disk.is_honest l.initial.from) → IsTrue (g.N.Disk.is_honest l.initial.onto)
      → part (g.N.Disk.seen l.onto) l.target (4096 * l.done) ≡ part (g.D.Disk.seen l.initial.from) l.source (4096 * l.done);
}
