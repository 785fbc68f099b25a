use Rattle.std.proofs.Common.{ap}
use Rattle.std.specs.List.{flat_map}
use Rattle.memory_replies.specs.Find.{address_line}
use Rattle.memory_replies.proofs.PrintLemmas.{up_to_then}
use Rattle.memory_replies.proofs.search.print_matches.Goals as goal

pub loop-address-preserved : goal.loop-address-preserved
loop-address-preserved g c = record {
  can_next = tt;
  is_finite = tt;
  told = up_to_then (ap (flat_map address_line) c.in-Some.ensures.steps) c.loop-address.invariant.told c.print_address.ensures;
}
