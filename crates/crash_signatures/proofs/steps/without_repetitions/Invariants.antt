use Rattle.std.proofs.Common.{◌≡◌, ◌≤◌, drop, map}
use Rattle.std.specs.Prelude.{fold}
use Rattle.arrayvec.specs.ArrayVec.{array_vec_len}
use Rattle.crash_signatures.specs.Steps.{with_word, without_repetitions}
use Rattle.crash_signatures.specs.WordViews.{said}
use Rattle.crash_signatures.proofs.steps.without_repetitions.Given as goal

abbrev pub invariant-loop-word : goal.invariant-loop-word
invariant-loop-word l = record {
  value : without_repetitions (map said l.words) ≡ fold with_word (map said l.kept.items) (map said (drop l.word-index l.words));
  room : array_vec_len l.kept ≤ l.word-index;
}
