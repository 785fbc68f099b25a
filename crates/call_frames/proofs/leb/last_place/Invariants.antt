use Rattle.std.proofs.Common.{◌≡◌, ℕ, ◌<◌, false, get_or}
use Rattle.call_frames.specs.Leb as spec
use Rattle.call_frames.proofs.leb.last_place.Given as goal

-- none of those that were asked is the last
abbrev pub invariant-loop-i : goal.invariant-loop-i
invariant-loop-i l = (k : ℕ) → k < l.i → spec.is_last (get_or l.bytes k 0) ≡ false
