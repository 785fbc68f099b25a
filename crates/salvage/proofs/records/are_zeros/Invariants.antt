-- Those before this place are zeros.
use Rattle.salvage.specs.Alone.{AreZeros}
use Rattle.salvage.proofs.records.are_zeros.Given as goal

abbrev pub invariant-loop-place : goal.invariant-loop-place
invariant-loop-place l = AreZeros l.bytes l.start l.place
