-- All are below where those that are left are.
use Rattle.std.proofs.Common.{drop}
use Rattle.extents.specs.Runs.{blocks_of}
use Rattle.salvage.specs.Mending.{AreBelow}
use Rattle.salvage.proofs.mending.are_before.Given as goal

abbrev pub invariant-loop-run : goal.invariant-loop-run
invariant-loop-run l = AreBelow l.blocks (blocks_of (drop l.run-index l.runs)) → AreBelow l.blocks (blocks_of l.runs)
