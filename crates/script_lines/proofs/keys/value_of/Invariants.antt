use Rattle.std.proofs.Common.{◌≡◌}
use Rattle.script_words.specs.WordsLeft.{words_left}
use Rattle.script_lines.specs.Keys.{value_of}
use Rattle.script_lines.proofs.keys.value_of.Given as goal

abbrev pub invariant-loop-word : goal.invariant-loop-word
invariant-loop-word l = record {
  can_next : (goal.iterator-loop-word).can_next l.rest;
  is_finite : (goal.iterator-loop-word).is_finite l.rest;
  same : value_of l.key (words_left l.words) ≡ value_of l.key (words_left l.rest);
}
