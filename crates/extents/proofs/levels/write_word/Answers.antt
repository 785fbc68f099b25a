use Rattle.std.proofs.Common.{◌%◌, ◌/◌, ◌^◌, ◌*◌, ap, sym, ◌∙◌, arith, get_or, bit_and, bit_or}
use Rattle.std.proofs.lemmas.Bool.{lt-ltb}
use Rattle.std.proofs.lemmas.Nat.Bits.{bit_at_clear_same, bit_at_clear_other, bit_at_set_same, bit_at_set_other}
use Rattle.std.proofs.Math.Dec.{ltb}
use Rattle.std.specs.Int.{bit_not, w64}
use mir.Val.{bits}
use Rattle.extents.specs.FreeSet.{one_if}
use Rattle.extents.proofs.WordLemmas.{second_more}
use Rattle.extents.proofs.levels.write_word.Goals as goal

pub returns-then-word-eq0-clause-second : goal.returns-then-word-eq0-clause-second
returns-then-word-eq0-clause-second c =
    let place = c.args.place in
    let before = get_or c.args.groups.now (place / 64) 0 in
    second_more c.args.words.now c.args.groups.now place c.args.word
    (bit_and before (bit_not w64 (1 * 2 ^ (place % 64) % 2 ^ bits w64)))
    c.requires.within c.requires.enough
    (bit_at_clear_same w64 before (place % 64) (omega arith) ∙ sym (ap (λ w. one_if (ltb 0 w)) c.if-word-eq0.true))
    (λ i short other. bit_at_clear_other w64 before (place % 64) (omega arith) i short other)
    c.requires.second

pub returns-else-word-eq0-clause-second : goal.returns-else-word-eq0-clause-second
returns-else-word-eq0-clause-second c =
    let place = c.args.place in
    let before = get_or c.args.groups.now (place / 64) 0 in
    let other_than_0 = c.if-word-eq0.false in
    second_more c.args.words.now c.args.groups.now place c.args.word
    (bit_or before (1 * 2 ^ (place % 64) % 2 ^ bits w64))
    c.requires.within c.requires.enough
    (bit_at_set_same w64 before (place % 64) (omega arith) ∙ sym (ap one_if (lt-ltb 0 c.args.word (omega (arith, other_than_0)))))
    (λ i short other. bit_at_set_other w64 before (place % 64) (omega arith) i other)
    c.requires.second
