use Rattle.std.proofs.Common.{◌≡◌, ◌≤◌, drop, length}
use Rattle.case_pages.specs.Times.{newest_of}
use Rattle.case_pages.proofs.times.newest_of.Given as goal

-- that of the times from this one on
abbrev pub invariant-loop-at : goal.invariant-loop-at
invariant-loop-at l = (l.newest ≡ newest_of (drop l.at l.times)) × (l.at ≤ length l.times)

abbrev pub decreases-loop-at : goal.decreases-loop-at
decreases-loop-at l = l.at
