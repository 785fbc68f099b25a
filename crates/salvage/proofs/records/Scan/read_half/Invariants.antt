-- What was read lies in these bytes, and all is read that lies before this place.
use Rattle.std.proofs.Common.{◌-◌, ◌+◌, ◌≤◌}
use Rattle.salvage.specs.Reads.{AreFrom, StayNamed, StayRead}
use Rattle.salvage.specs.Records.{AreDrops, AreIndexed}
use Rattle.salvage.proofs.HalfLemmas.{AreReadTo, TakenAt}
use Rattle.salvage.proofs.records.Scan.read_half.Given as goal

abbrev pub invariant-loop-start : goal.invariant-loop-start
invariant-loop-start l = record {
  drops : AreDrops l.front l.fn.self.drops.items → AreDrops l.front l.self.drops.items;
  indexed : AreIndexed l.fn.self.drops.items l.fn.self.dropped → AreIndexed l.self.drops.items l.self.dropped;
  stay : StayRead l.fn.self.reads.items l.self.reads.items;
  from : AreFrom l.blocks l.front l.fn.self.reads.items → AreFrom l.blocks l.front l.self.reads.items;
  kept : StayNamed l.fn.self.drops.items l.self.drops.items;
  read : l.fn.half.start + 32 ≤ l.end → AreReadTo l.blocks l.front l.fn.half.start l.end l.start l.in_row (TakenAt l.blocks l.front l.end l.self.reads.items l.self.drops.items);
}

abbrev pub decreases-loop-start : goal.decreases-loop-start
decreases-loop-start l = l.end - l.start
