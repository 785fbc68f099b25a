use Rattle.std.proofs.Common.{ℕ, List, drop}
use Rattle.seen_memory.specs.Parts.{HasParts, IsBeside}
use Rattle.seen_memory.proofs.at_hand.parts_from.Given as goal

-- if none of those that are left has the place, none has it; an image that has all has those
abbrev pub invariant-loop-part : goal.invariant-loop-part
invariant-loop-part l = record {
  beside : IsBeside l.place (drop l.part-index l.parts) → IsBeside l.place l.parts;
  has : (image : List ℕ) → HasParts image l.parts → HasParts image (drop l.part-index l.parts);
}
