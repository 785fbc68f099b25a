use Rattle.std.proofs.Common.{◌≡◌, IsTrue, take}
use Rattle.case_journal.specs.Viewing.{OnlyReads}
use Rattle.intake.specs.Ranges.{bytes_in}
use Rattle.archive_files.proofs.unlocked_images.read_ranges.Given as goal

abbrev pub invariant-loop-range : goal.invariant-loop-range
invariant-loop-range g l = record {
  quiet : OnlyReads g.D.Disk l.initial.disk l.disk;
  bytes : IsTrue (g.D.Disk.is_honest l.initial.disk) → l.image.items ≡ bytes_in (g.D.Disk.seen l.initial.disk) (take l.range-index l.ranges);
}
