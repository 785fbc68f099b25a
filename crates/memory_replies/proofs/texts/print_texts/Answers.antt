use Rattle.std.proofs.Common.{ap, sym, subst, ◌∙◌}
use Rattle.std.specs.List.{flat_map}
use Rattle.address_space.specs.SpaceWords.{space_of}
use Rattle.address_space.specs.StringWords.{strings_left}
use Rattle.memory_replies.specs.Texts.{text_line}
use Rattle.memory_replies.proofs.PrintLemmas.{up_to_start_as, up_to_then}
use Rattle.memory_replies.proofs.TextLemmas.{AreTexts, strings_are}
use Rattle.memory_replies.proofs.texts.print_texts.Goals as goal

pub loop-text-init : goal.loop-text-init
loop-text-init g c = record {
  can_next = tt;
  is_finite = tt;
  texts = subst (AreTexts (space_of c.args.space.now)) (sym (ap strings_left c.into_iter-text-iterator.ensures.into_iter_gives ∙ c.strings-text-items.ensures)) (strings_are (space_of c.args.space.now) c.args.least);
  told = up_to_start_as (ap (flat_map (text_line (space_of c.args.space.now))) (sym (ap strings_left c.into_iter-text-iterator.ensures.into_iter_gives ∙ c.strings-text-items.ensures)));
}

pub print_line-requires : goal.print_line-requires
print_line-requires g c = (subst (AreTexts (space_of c.args.space.now)) c.in-Some.ensures.steps c.loop-text.invariant.texts).0

pub loop-text-preserved : goal.loop-text-preserved
loop-text-preserved g c = record {
  can_next = tt;
  is_finite = tt;
  texts = (subst (AreTexts (space_of c.args.space.now)) c.in-Some.ensures.steps c.loop-text.invariant.texts).1;
  told = up_to_then (ap (flat_map (text_line (space_of c.args.space.now))) c.in-Some.ensures.steps) c.loop-text.invariant.told c.print_line.ensures;
}
