use Rattle.std.proofs.Common.{◌≡◌}
use Rattle.script_words.specs.WordsLeft.{words_left}
use Rattle.script_lines.specs.LineWords.{AreWords}
use Rattle.script_lines.specs.Keys.{are_pairs}
use Rattle.script_lines.proofs.keys.are_pairs.Given as goal

abbrev pub invariant-loop-word : goal.invariant-loop-word
invariant-loop-word l = record {
  can_next : (goal.iterator-loop-word).can_next l.rest;
  is_finite : (goal.iterator-loop-word).is_finite l.rest;
  words : AreWords (words_left l.rest);
  same : are_pairs l.keys (words_left l.words) ≡ are_pairs l.keys (words_left l.rest);
}
