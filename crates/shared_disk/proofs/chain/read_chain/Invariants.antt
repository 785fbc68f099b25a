use Rattle.std.proofs.Common.{◌-◌, ◌≤◌, IsTrue}
use Rattle.shared_disk.specs.JournalLooks.{OpensInTurn}
use Rattle.shared_disk.specs.Watching.{Runs}
use Rattle.shared_disk.proofs.chain.read_chain.Given as goal

abbrev pub invariant-loop-at : goal.invariant-loop-at
invariant-loop-at g l = record {
  opened : IsTrue (g.D.WatchedDisk.is_honest l.initial.disk)
      → OpensInTurn (g.D.WatchedDisk.moments l.initial.disk) (g.D.WatchedDisk.reached l.initial.disk) (g.D.WatchedDisk.reached l.disk) l.places.items;
  runs : Runs g.D.WatchedDisk l.initial.disk l.disk;
  from : l.first ≤ l.at;
}

abbrev pub decreases-loop-at : goal.decreases-loop-at
decreases-loop-at g l = l.end - l.at
