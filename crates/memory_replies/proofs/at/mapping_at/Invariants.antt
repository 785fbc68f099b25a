use Rattle.std.proofs.Common.{◌≡◌, find}
use Rattle.address_space.specs.PieceWords.{mappings_left}
use Rattle.address_space.specs.Source.{mappings_of}
use Rattle.address_space.specs.SpaceWords.{space_of}
use Rattle.memory_replies.specs.At.{has_address}
use Rattle.memory_replies.proofs.at.mapping_at.Given as goal

-- the first of all is the first of those that are left
abbrev pub invariant-loop-mapping : goal.invariant-loop-mapping
invariant-loop-mapping l = record {
  can_next : (goal.iterator-loop-mapping).can_next l.mapping-iterator;
  is_finite : (goal.iterator-loop-mapping).is_finite l.mapping-iterator;
  first : find (has_address l.address) (mappings_of (space_of l.space)) ≡ find (has_address l.address) (mappings_left l.mapping-iterator);
}
