use Rattle.std.proofs.Common.{ap}
use Rattle.std.specs.List.{flat_map}
use Rattle.memory_replies.specs.Maps.{mapping_line}
use Rattle.memory_replies.proofs.PrintLemmas.{up_to_then}
use Rattle.memory_replies.proofs.maps.print_mappings.Goals as goal

pub loop-mapping-preserved : goal.loop-mapping-preserved
loop-mapping-preserved g c = record {
  can_next = tt;
  is_finite = tt;
  told = up_to_then (ap (flat_map mapping_line) c.in-Some.ensures.steps) c.loop-mapping.invariant.told c.print_mapping.ensures;
}
