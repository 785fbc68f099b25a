use Rattle.std.proofs.Common.{◌≡◌, ◌≤◌, filter, length, take}
use Rattle.case_pages.specs.Times.{bears_out}
use Rattle.case_pages.proofs.times.support.Given as goal

-- those of the times so far
abbrev pub invariant-loop-other : goal.invariant-loop-other
invariant-loop-other l = (l.support ≡ length (filter (bears_out l.fn.time) (take l.other-index l.later))) × (l.support ≤ l.other-index)
