use Rattle.std.proofs.Common.{◌≡◌, ◌++◌, drop}
use Rattle.call_frames.specs.Covering as spec
use Rattle.call_frames.proofs.spans.greatest_ends.Given as goal

-- the ends so far precede those that are left
abbrev pub invariant-loop-span : goal.invariant-loop-span
invariant-loop-span l =
    spec.greatest_ends 0 l.spans ≡ l.ends.items ++ spec.greatest_ends l.greatest (drop l.span-index l.spans)
