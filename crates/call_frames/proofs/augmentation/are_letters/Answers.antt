use Rattle.std.proofs.Common.{sym, ◌∙◌, arith}
use Rattle.call_frames.proofs.Letters.{letter_passes, letter_fails, letters_pass}
use Rattle.call_frames.proofs.augmentation.are_letters.Goals as goal

pub returns-then-not-is_new_letter : goal.returns-then-not-is_new_letter
returns-then-not-is_new_letter c =
    sym (c.loop-i.invariant ∙ letter_fails c.args.letters.now c.loop-i.i (omega arith) (sym c.if-not-is_new_letter.ensures))

pub loop-i-preserved : goal.loop-i-preserved
loop-i-preserved c =
    c.loop-i.invariant ∙ letter_passes c.args.letters.now c.loop-i.i (omega arith) (sym c.if-not-is_new_letter.ensures)

pub returns : goal.returns
returns c = sym (c.loop-i.invariant ∙ letters_pass c.args.letters.now c.loop-i.i (omega arith))
