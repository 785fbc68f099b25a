use Rattle.std.proofs.Common.{◌≡◌}
use Rattle.case_pages.specs.Bars.{bars}
use Rattle.case_pages.proofs.bars.bars_of.Given as goal

-- the bars so far
abbrev pub invariant-loop-at : goal.invariant-loop-at
invariant-loop-at l = l.bars.items ≡ bars l.fn.span.step l.fn.span.first l.at l.fn.times
