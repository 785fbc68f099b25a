use Rattle.std.proofs.Common.{◌+◌, ℕ, List, get_or, sym, refl, subst, arith, bit_or}
use Rattle.extents.proofs.WordLemmas.{IsWrittenTo, written_more, bits_set}
use Rattle.extents.proofs.levels.set_bits.Goals as goal

pub loop-place-preserved : goal.loop-place-preserved
loop-place-preserved c =
    let place = c.loop-place.place in
    let before = get_or c.loop-place.words place 0 in
    let P : List ℕ → Type 0 = λ new. IsWrittenTo c.args.words.now new c.args.run 1 (place + 1) in
    record {
      bits = subst P (sym c.write_word.ensures.word) (
          written_more c.args.words.now c.loop-place.words c.args.run 1 place (bit_or before c.mask_of.result) before (omega arith) refl
          (bits_set c.args.run place before c.mask_of.result (omega arith) c.mask_of.ensures) c.loop-place.invariant.bits);
      second = c.write_word.ensures.second;
    }
