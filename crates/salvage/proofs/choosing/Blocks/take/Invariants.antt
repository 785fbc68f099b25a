-- All are used where those that are left are.
use Rattle.std.proofs.Common.{List, Bool, true, drop}
use Rattle.extents.specs.Runs.{blocks_of}
use Rattle.salvage.specs.Contests.{AreUsed, StayUsed}
use Rattle.salvage.proofs.choosing.Blocks.take.Given as goal

abbrev pub invariant-loop-run : goal.invariant-loop-run
invariant-loop-run l = record {
  stay : StayUsed l.fn.self.used.items l.self.used.items;
  used : (last : List Bool) → StayUsed l.self.used.items last → AreUsed last true (blocks_of (drop l.run-index l.runs)) → AreUsed last true (blocks_of l.runs);
}
