use Rattle.std.proofs.Common.{◌≡◌, ◌≤◌, take}
use Rattle.symbols.specs.Covering as spec
use Rattle.symbols.proofs.Best.{kept}
use Rattle.symbols.proofs.covering.named_among.Given as goal

-- the one named is the best of those that were asked and of those that are left
abbrev pub invariant-loop-left : goal.invariant-loop-left
invariant-loop-left l = record {
  within : l.left ≤ l.count;
  same : spec.named l.address (take l.count l.functions) ≡ kept l.address l.best (take l.left l.functions);
}

abbrev pub decreases-loop-left : goal.decreases-loop-left
decreases-loop-left l = l.left
