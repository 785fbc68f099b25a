use Rattle.std.proofs.Common.{◌≡◌, ◌≤◌, drop, length}
use Rattle.call_frames.specs.Leb as spec
use Rattle.call_frames.proofs.leb.groups.Given as goal

-- the number so far is that of the groups that were taken
abbrev pub invariant-loop-left : goal.invariant-loop-left
invariant-loop-left l = record {
  within : l.left ≤ length l.text;
  value : l.value ≡ spec.groups (drop l.left l.text);
}

abbrev pub decreases-loop-left : goal.decreases-loop-left
decreases-loop-left l = l.left
