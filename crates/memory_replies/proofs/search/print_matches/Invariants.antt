use Rattle.std.specs.List.{flat_map}
use Rattle.script_streams.specs.Printing.{sink}
use Rattle.address_space.specs.FindWords.{matches_left}
use Rattle.address_space.specs.Occurrence.{occurrences}
use Rattle.address_space.specs.SpaceWords.{space_of}
use Rattle.memory_replies.specs.Find.{address_line}
use Rattle.memory_replies.proofs.PrintLemmas.{PrintsUpTo}
use Rattle.memory_replies.proofs.search.print_matches.Given as goal

abbrev pub invariant-loop-address : goal.invariant-loop-address
invariant-loop-address g l = record {
  can_next : (goal.iterator-loop-address g).can_next l.address-iterator;
  is_finite : (goal.iterator-loop-address g).is_finite l.address-iterator;
  told : PrintsUpTo (sink g.O.Output l.initial.reply) (sink g.O.Output l.reply)
      (flat_map address_line (occurrences (space_of l.space) l.needle)) (flat_map address_line (matches_left l.address-iterator));
}
