use Rattle.std.proofs.Common.{◌≡◌, ◌+◌, ◌++◌, map, take}
use Rattle.arrayvec.specs.ArrayVec.{array_vec_len}
use Rattle.crash_signatures.specs.WordViews.{said}
use Rattle.crash_signatures.proofs.words.add_words.Given as goal

abbrev pub invariant-loop-word : goal.invariant-loop-word
invariant-loop-word g l = record {
  copies : map said l.list.items ≡ map said l.initial.list.items ++ map said (take l.word-index l.words);
  count : array_vec_len l.list ≡ array_vec_len l.initial.list + l.word-index;
}
