use Rattle.std.proofs.Common.{◌≡◌, ◌<◌, ℕ, ◌+◌, length, get_or, Some}
use Rattle.address_space.specs.Source.{value_at}
use Rattle.address_space.specs.SpaceWords.{space_of}
use Rattle.address_space.proofs.space.AddressSpace.eight_values.Given as goal

-- what went by are the values
abbrev pub invariant-loop-i : goal.invariant-loop-i
invariant-loop-i l = record {
  size : length l.bytes ≡ 8;
  values : (k : ℕ) → k < l.i → value_at (space_of l.self) (l.address + k) ≡ Some (get_or l.bytes k 0);
}
