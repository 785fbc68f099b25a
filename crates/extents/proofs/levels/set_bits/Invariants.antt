use Rattle.extents.specs.FreeWords.{IsSecondLevel}
use Rattle.extents.proofs.WordLemmas.{IsWrittenTo}
use Rattle.extents.proofs.levels.set_bits.Given as goal

abbrev pub invariant-loop-place : goal.invariant-loop-place
invariant-loop-place l = record {
  bits : IsWrittenTo l.fn.words l.words l.fn.run 1 l.place;
  second : IsSecondLevel l.groups l.words;
}
