-- What was read lies in these bytes, and no case is read.
use Rattle.std.proofs.Common.{◌≡◌, ℕ, ◌+◌, ◌*◌, ◌<◌}
use Rattle.salvage.specs.Reads.{StayNamed}
use Rattle.salvage.specs.Records.{AreDrops, AreIndexed, IsDeleted, number_of}
use Rattle.salvage.proofs.records.Scan.take_drop.Given as goal

abbrev pub invariant-loop-index : goal.invariant-loop-index
invariant-loop-index l = record {
  drops : AreDrops l.front l.fn.self.drops.items → AreDrops l.front l.self.drops.items;
  reads : l.self.reads ≡ l.fn.self.reads;
  kept : StayNamed l.fn.self.drops.items l.self.drops.items;
  named : (k : ℕ) → k < l.index → IsDeleted l.self.drops.items (number_of l.front (l.fn.place.start + 12 + 4 * k));
  indexed : AreIndexed l.fn.self.drops.items l.fn.self.dropped → AreIndexed l.self.drops.items l.self.dropped;
}
