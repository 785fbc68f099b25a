use Rattle.std.specs.List.{flat_map}
use Rattle.script_streams.specs.Printing.{sink}
use Rattle.address_space.specs.Occurrence.{strings_of}
use Rattle.address_space.specs.SpaceWords.{space_of}
use Rattle.address_space.specs.StringWords.{strings_left}
use Rattle.memory_replies.specs.Texts.{text_line}
use Rattle.memory_replies.proofs.PrintLemmas.{PrintsUpTo}
use Rattle.memory_replies.proofs.TextLemmas.{AreTexts}
use Rattle.memory_replies.proofs.texts.print_texts.Given as goal

abbrev pub invariant-loop-text : goal.invariant-loop-text
invariant-loop-text g l = record {
  can_next : (goal.iterator-loop-text g).can_next l.text-iterator;
  is_finite : (goal.iterator-loop-text g).is_finite l.text-iterator;
  texts : AreTexts (space_of l.space) (strings_left l.text-iterator);
  told : PrintsUpTo (sink g.O.Output l.initial.reply) (sink g.O.Output l.reply)
      (flat_map (text_line (space_of l.space)) (strings_of (space_of l.space) l.least)) (flat_map (text_line (space_of l.space)) (strings_left l.text-iterator));
}
