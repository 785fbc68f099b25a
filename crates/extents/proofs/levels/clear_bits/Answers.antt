use Rattle.std.proofs.Common.{◌+◌, ℕ, List, get_or, sym, refl, subst, arith, bit_and}
use Rattle.std.specs.Int.{bit_not, w64}
use Rattle.extents.proofs.WordLemmas.{IsWrittenTo, written_more, bits_cleared}
use Rattle.extents.proofs.levels.clear_bits.Goals as goal

pub loop-place-preserved : goal.loop-place-preserved
loop-place-preserved c =
    let place = c.loop-place.place in
    let before = get_or c.loop-place.words place 0 in
    let P : List ℕ → Type 0 = λ new. IsWrittenTo c.args.words.now new c.args.run 0 (place + 1) in
    record {
      bits = subst P (sym c.write_word.ensures.word) (
          written_more c.args.words.now c.loop-place.words c.args.run 0 place (bit_and before (bit_not w64 c.mask_of.result)) before (omega arith) refl
          (bits_cleared c.args.run place before c.mask_of.result (omega arith) c.mask_of.ensures) c.loop-place.invariant.bits);
      second = c.write_word.ensures.second;
    }
