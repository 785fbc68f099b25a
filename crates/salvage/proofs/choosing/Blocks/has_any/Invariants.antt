-- None is used where none of those that are left is.
use Rattle.std.proofs.Common.{◌≡◌, false, drop}
use Rattle.extents.specs.Runs.{blocks_of}
use Rattle.salvage.specs.Contests.{AreUsed}
use Rattle.salvage.proofs.choosing.Blocks.has_any.Given as goal

abbrev pub invariant-loop-run : goal.invariant-loop-run
invariant-loop-run l = AreUsed l.self.used.items false (blocks_of (drop l.run-index l.runs)) → AreUsed l.self.used.items false (blocks_of l.runs)
