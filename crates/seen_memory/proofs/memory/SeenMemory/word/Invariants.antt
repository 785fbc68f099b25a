use Rattle.std.proofs.Common.{◌≡◌, ◌<◌, ℕ, ◌+◌, List, length, get_or, Some}
use Rattle.address_space.specs.Source.{value_at}
use Rattle.seen_memory.specs.Seen.{IsImageOf, space_by}
use Rattle.seen_memory.proofs.memory.SeenMemory.word.Given as goal

-- what went by are the values, in each memory that this one can be
abbrev pub invariant-loop-i : goal.invariant-loop-i
invariant-loop-i l = record {
  size : length l.bytes ≡ 8;
  values : (image : List ℕ) → IsImageOf l.self image → (k : ℕ) → k < l.i → value_at (space_by l.self image) (l.address + k) ≡ Some (get_or l.bytes k 0);
}
