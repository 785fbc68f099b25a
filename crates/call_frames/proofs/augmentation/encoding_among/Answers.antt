use Rattle.std.proofs.Common.{sym, ◌∙◌, arith}
use Rattle.call_frames.proofs.Letters.{size_missing, size_found, sizes_end}
use Rattle.call_frames.proofs.augmentation.encoding_among.Goals as goal

pub returns-in_err-size : goal.returns-in_err-size
returns-in_err-size c =
    rw c.from_residual.ensures (sym (c.loop-letter.invariant ∙ size_missing c.loop-letter.encoding c.args.letters.now c.loop-letter.rest.now c.loop-letter.letter-index (omega arith) c.in_err-size.ensures.size))

pub loop-letter-preserved : goal.loop-letter-preserved
loop-letter-preserved c =
    c.loop-letter.invariant ∙ size_found c.loop-letter.encoding c.encoding_with-encoding.result c.args.letters.now c.loop-letter.rest.now c.loop-letter.letter-index c.in_ok-size.size (omega arith) c.in_ok-size.ensures.size c.encoding_with-encoding.ensures

pub returns : goal.returns
returns c =
    sym (c.loop-letter.invariant ∙ sizes_end c.loop-letter.encoding c.args.letters.now c.loop-letter.rest.now c.loop-letter.letter-index (omega arith))
