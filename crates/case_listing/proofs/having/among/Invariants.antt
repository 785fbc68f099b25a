use Rattle.std.proofs.Common.{take}
use Rattle.case_listing.specs.Having.{FindsAmong}
use Rattle.case_listing.proofs.having.among.Given as goal

-- of those that went by
abbrev pub invariant-loop-seq : goal.invariant-loop-seq
invariant-loop-seq g l = FindsAmong g.D.Disk l.initial.archive l.sought (take l.seq-index l.numbers) l.found.items l.archive
