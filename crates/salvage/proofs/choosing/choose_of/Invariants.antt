-- What deletes cases stays as it is, and each case stays read.
use Rattle.std.proofs.Common.{◌≡◌}
use Rattle.salvage.specs.Reads.{StayFrom, StayRead}
use Rattle.salvage.proofs.choosing.choose_of.Given as goal

abbrev pub invariant-loop-index : goal.invariant-loop-index
invariant-loop-index l = record {
  drops : l.scan.drops ≡ l.fn.scan.drops;
  dropped : l.scan.dropped ≡ l.fn.scan.dropped;
  from : StayFrom l.fn.scan.reads.items l.scan.reads.items;
  stay : StayRead l.fn.scan.reads.items l.scan.reads.items;
}
