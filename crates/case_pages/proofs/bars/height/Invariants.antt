use Rattle.std.proofs.Common.{◌≡◌, ◌≤◌, filter, length, take}
use Rattle.case_pages.specs.Bars.{is_in_bar}
use Rattle.case_pages.proofs.bars.height.Given as goal

-- those of the times so far
abbrev pub invariant-loop-time : goal.invariant-loop-time
invariant-loop-time l = (l.height ≡ length (filter (is_in_bar l.fn.step l.fn.bar) (take l.time-index l.times))) × (l.height ≤ l.time-index)
