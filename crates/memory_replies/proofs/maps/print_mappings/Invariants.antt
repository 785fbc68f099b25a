use Rattle.std.specs.List.{flat_map}
use Rattle.script_streams.specs.Printing.{sink}
use Rattle.address_space.specs.PieceWords.{mappings_left}
use Rattle.address_space.specs.Source.{mappings_of}
use Rattle.address_space.specs.SpaceWords.{space_of}
use Rattle.memory_replies.specs.Maps.{mapping_line}
use Rattle.memory_replies.proofs.PrintLemmas.{PrintsUpTo}
use Rattle.memory_replies.proofs.maps.print_mappings.Given as goal

abbrev pub invariant-loop-mapping : goal.invariant-loop-mapping
invariant-loop-mapping g l = record {
  can_next : (goal.iterator-loop-mapping g).can_next l.mapping-iterator;
  is_finite : (goal.iterator-loop-mapping g).is_finite l.mapping-iterator;
  told : PrintsUpTo (sink g.O.Output l.initial.reply) (sink g.O.Output l.reply)
      (flat_map mapping_line (mappings_of (space_of l.space))) (flat_map mapping_line (mappings_left l.mapping-iterator));
}
