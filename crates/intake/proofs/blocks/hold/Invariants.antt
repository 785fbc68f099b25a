use Rattle.std.proofs.Common.{[], take}
use Rattle.extents.specs.Runs.{blocks_of}
use Rattle.intake.specs.Balance.{Balances}
use Rattle.intake.proofs.blocks.hold.Given as goal

abbrev pub invariant-loop-run : goal.invariant-loop-run
invariant-loop-run l = Balances l.initial.free [] l.free (blocks_of (take l.run-index l.run-items))
