use Rattle.std.proofs.Common.{◌+◌, ◌*◌, ◌∷◌, [], ℕ, length, length-append, sym, subst, ap, ◌∙◌, arith}
use Rattle.address_space.specs.Source.{word_at}
use Rattle.address_space.specs.SpaceWords.{space_of}
use Rattle.address_space.specs.Whole.{space_in}
use Rattle.core_crashes.specs.CaseReading.{ArePieces, AreWords}
use Rattle.core_crashes.proofs.CaseReadingLemmas.{read_none, words_more}
use Rattle.core_crashes.proofs.words.words_in_case.Goals as goal

pub loop-index-init : goal.loop-index-init
loop-index-init g c = record {
  has = c.requires.has;
  reads = read_none g.D.Disk g.met.D.Disk.only_now c.args.archive.now;
  pieces = λ image is. subst (ArePieces image) (sym c.new-pieces.ensures.items) tt;
  number = ap length c.new-words.ensures.items;
  told = λ image is. subst (AreWords (space_in image (space_of c.args.space.now)) c.args.first) (sym c.new-words.ensures.items) tt;
}

pub word_by-requires-clause-has : goal.word_by-requires-clause-has
word_by-requires-clause-has g c = c.loop-index.invariant.has

pub loop-index-preserved : goal.loop-index-preserved
loop-index-preserved g c =
    let old = c.args.archive.now in
    let so_far = c.loop-index.invariant in
    let last = c.in_ok-word.ensures in record {
      has = last.has;
      reads = last.reads old so_far.reads;
      pieces = last.pieces old so_far.reads so_far.pieces;
      number = omega (arith, ap length c.in_ok-push_word.ensures, length-append c.loop-index.words.items (c.in_ok-word.word ∷ []), so_far.number);
      told = λ image is.
          subst (AreWords (space_in image (space_of c.args.space.now)) c.args.first) (sym c.in_ok-push_word.ensures)
          (words_more (space_in image (space_of c.args.space.now)) c.args.first c.loop-index.words.items c.in_ok-word.word (so_far.told image is)
          (last.told old so_far.reads so_far.pieces image is ∙ ap (λ (n : ℕ). word_at (space_in image (space_of c.args.space.now)) (c.args.first + 8 * n) 8) (sym so_far.number)));
    }

pub returns : goal.returns
returns g c = record {
  told = λ image is. c.loop-index.invariant.told image is;
  number = omega (arith, c.loop-index.invariant.number);
  reads = c.loop-index.invariant.reads;
}
