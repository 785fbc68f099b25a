use Rattle.std.proofs.Common.{◌<◌, ◌^◌, get_or, refl, arith, bit_and}
use Rattle.std.specs.Int.{bit_not, w64}
use Rattle.std.specs.Int.Bits.{and_lt}
use Rattle.extents.proofs.WordLemmas.{bits_missing, used_within, set_up_to, set_more}
use Rattle.extents.proofs.levels.free_at_start.Goals as goal

pub overflow_sub-result : goal.overflow_sub-result
overflow_sub-result c =
    let place = c.loop-place.place in
    let word = get_or c.args.words.now place 0 in
    let used = bit_and (bit_not w64 word) c.mask_of.result in
    let some = c.if-used-ne0.true in
    let fits : word < 2 ^ 64 = omega (arith, c.type_inv.words place) in
    let short : used < 2 ^ 64 = and_lt 64 (bit_not w64 word) c.mask_of.result (omega arith) (omega arith) in
    let w = used_within c.args.words.now c.args.run place c.loop-place.invariant word used refl short
    (bits_missing c.args.run place word c.mask_of.result (omega arith) c.mask_of.ensures fits) (omega (arith, some)) in
    w.0

pub returns-then-used-ne0 : goal.returns-then-used-ne0
returns-then-used-ne0 c =
    let place = c.loop-place.place in
    let word = get_or c.args.words.now place 0 in
    let used = bit_and (bit_not w64 word) c.mask_of.result in
    let some = c.if-used-ne0.true in
    let fits : word < 2 ^ 64 = omega (arith, c.type_inv.words place) in
    let short : used < 2 ^ 64 = and_lt 64 (bit_not w64 word) c.mask_of.result (omega arith) (omega arith) in
    let missing = bits_missing c.args.run place word c.mask_of.result (omega arith) c.mask_of.ensures fits in
    let w = used_within c.args.words.now c.args.run place c.loop-place.invariant word used refl short missing (omega (arith, some)) in
    set_up_to c.args.words.now c.args.run place c.loop-place.invariant word used refl short missing (omega (arith, some)) _ (omega (arith, w.0))

pub loop-place-preserved : goal.loop-place-preserved
loop-place-preserved c =
    let place = c.loop-place.place in
    let word = get_or c.args.words.now place 0 in
    let used = bit_and (bit_not w64 word) c.mask_of.result in
    let none = c.if-used-ne0.false in
    let fits : word < 2 ^ 64 = omega (arith, c.type_inv.words place) in
    let short : used < 2 ^ 64 = and_lt 64 (bit_not w64 word) c.mask_of.result (omega arith) (omega arith) in
    set_more c.args.words.now c.args.run place c.loop-place.invariant word used refl short
    (bits_missing c.args.run place word c.mask_of.result (omega arith) c.mask_of.ensures fits) (omega (arith, none))
