-- The greatest number so far, and those of the reads that are left.
use Rattle.std.proofs.Common.{◌≡◌, drop, max}
use Rattle.salvage.specs.Noting.{greatest_copied}
use Rattle.salvage.proofs.noting.last_of.Given as goal

abbrev pub invariant-loop-read : goal.invariant-loop-read
invariant-loop-read l = max l.last (greatest_copied (drop l.read-index l.reads)) ≡ greatest_copied l.reads
