use Rattle.std.proofs.Common.{◌≡◌, ◌<◌, ℕ, true, get_or}
use Rattle.address_space.specs.Occurrence.{is_text_byte}
use Rattle.address_space.proofs.strings.text_front.Given as goal

abbrev pub invariant-loop-i : goal.invariant-loop-i
invariant-loop-i l = (k : ℕ) → k < l.i → is_text_byte (get_or l.bytes k 0) ≡ true
