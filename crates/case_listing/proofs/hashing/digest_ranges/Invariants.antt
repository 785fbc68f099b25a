use Rattle.std.proofs.Common.{take, IsTrue}
use Rattle.case_journal.specs.Viewing.{OnlyReads}
use Rattle.intake.specs.Ranges.{bytes_in}
use Rattle.sha2.specs.Hashers.{Holds256}
use Rattle.case_listing.proofs.hashing.digest_ranges.Given as goal

abbrev pub invariant-loop-range : goal.invariant-loop-range
invariant-loop-range g l = record {
  holds : IsTrue (g.D.Disk.is_honest l.initial.disk) → Holds256 l.hasher (bytes_in (g.D.Disk.seen l.initial.disk) (take l.range-index l.ranges));
  quiet : OnlyReads g.D.Disk l.initial.disk l.disk;
}
