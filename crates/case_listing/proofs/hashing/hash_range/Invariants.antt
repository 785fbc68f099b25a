use Rattle.std.proofs.Common.{ℕ, ◌-◌, ◌≤◌, IsTrue}
use Rattle.case_journal.specs.Viewing.{OnlyReads}
use Rattle.disk_model.specs.Places.{part}
use Rattle.case_listing.specs.Hashing.{Adds}
use Rattle.case_listing.proofs.hashing.hash_range.Given as goal

abbrev pub invariant-loop-done : goal.invariant-loop-done
invariant-loop-done g l = record {
  adds : IsTrue (g.D.Disk.is_honest l.initial.disk) → Adds l.initial.hasher l.hasher (part (g.D.Disk.seen l.initial.disk) l.range.start l.done);
  quiet : OnlyReads g.D.Disk l.initial.disk l.disk;
  within : l.done ≤ l.range.length;
}

abbrev pub decreases-loop-done : goal.decreases-loop-done
decreases-loop-done g l = l.range.length - l.done
