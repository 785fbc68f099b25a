use Rattle.std.proofs.Common.{◌≡◌, ◌≤◌, take}
use Rattle.call_frames.specs.Covering as spec
use Rattle.call_frames.proofs.Search.{kept}
use Rattle.call_frames.proofs.spans.earliest_among.Given as goal

-- the earliest is that of those that were asked and of those that are left
abbrev pub invariant-loop-left : goal.invariant-loop-left
invariant-loop-left l = record {
  within : l.left ≤ l.count;
  same : spec.earliest l.address (take l.count l.spans) ≡ kept l.address l.best (take l.left l.spans);
}

abbrev pub decreases-loop-left : goal.decreases-loop-left
decreases-loop-left l = l.left
