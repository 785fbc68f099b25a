-- The reads from this place on are told of.
use Rattle.std.proofs.Common.{take, drop, length, ◌≤◌}
use Rattle.salvage.specs.Told.{AreLost, PrintsLines}
use Rattle.script_streams.specs.Printing.{sink}
use Rattle.salvage.proofs.printing.print_lost.Given as goal

abbrev pub invariant-loop-left : goal.invariant-loop-left
invariant-loop-left g l = record {
  bound : l.left ≤ length l.found.scan.reads.items;
  told : PrintsLines (record { before = sink g.O.Output l.initial.reply; after = sink g.O.Output l.reply }) (AreLost l.found (take l.left l.found.scan.reads.items) (drop l.left l.found.scan.reads.items));
}

abbrev pub decreases-loop-left : goal.decreases-loop-left
decreases-loop-left g l = l.left
