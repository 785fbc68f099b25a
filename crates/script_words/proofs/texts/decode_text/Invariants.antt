use Rattle.std.proofs.Common.{◌≡◌, ◌+◌, ◌≤◌, length}
use Rattle.script_words.specs.Text.{text_of}
use Rattle.script_words.proofs.TextLemmas.{with_front}
use Rattle.script_words.proofs.texts.decode_text.Given as goal

abbrev pub invariant-loop-rest : goal.invariant-loop-rest
invariant-loop-rest l = record {
  so_far : with_front l.text.items (text_of l.rest) ≡ text_of l.word;
  room : length l.text.items + length l.rest ≤ 1024;
}

abbrev pub decreases-loop-rest : goal.decreases-loop-rest
decreases-loop-rest l = length l.rest
