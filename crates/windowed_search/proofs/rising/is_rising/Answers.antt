use Rattle.std.proofs.Common.{subst, sym}
use Rattle.windowed_search.specs.Rising.{IsRising}
use Rattle.windowed_search.proofs.rising.is_rising.Goals as goal

pub returns : goal.returns
returns c says = c.loop-segment.invariant.rises (subst (IsRising c.loop-segment.past) (sym c.in_default.ensures.steps.0) c.loop-segment.invariant.fits)
