use Rattle.std.proofs.Common.{◌≡◌, ◌+◌, ◌*◌, ◌≤◌, length}
use Rattle.script_words.specs.Hex.{bytes_of_hex}
use Rattle.script_words.proofs.TextLemmas.{with_front}
use Rattle.script_words.proofs.texts.decode_pairs.Given as goal

abbrev pub invariant-loop-rest : goal.invariant-loop-rest
invariant-loop-rest l = record {
  so_far : with_front l.bytes.items (bytes_of_hex l.rest) ≡ bytes_of_hex l.word;
  room : 2 * length l.bytes.items + length l.rest ≤ 128;
}

abbrev pub decreases-loop-rest : goal.decreases-loop-rest
decreases-loop-rest l = length l.rest
