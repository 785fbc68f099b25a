use Rattle.std.proofs.Common.{◌≡◌, filter, take}
use Rattle.case_pages.specs.Times.{is_dated}
use Rattle.case_pages.proofs.times.dated.Given as goal

-- those of the times so far
abbrev pub invariant-loop-time : goal.invariant-loop-time
invariant-loop-time l = l.dated.items ≡ filter is_dated (take l.time-index l.times)
