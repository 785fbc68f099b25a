use Rattle.std.proofs.Common.{length, ◌<◌, sym, ◌∙◌, arith, false-eqb}
use Rattle.script_words.proofs.NumberLemmas.{number_after-stops, number_after-ends, numeral_of-is}
use Rattle.script_words.proofs.numbers.parse_numeral.Goals as goal

pub returns-in_err-value : goal.returns-in_err-value
returns-in_err-value c =
    let digits = c.args.digits.now in
    let some : 0 < length digits = omega (arith, false-eqb _ 0 (sym c.if-is_empty.false ∙ c.is_empty.ensures)) in
    let was = c.in_err-value.was in
    c.from_residual.ensures
    ∙ sym (number_after-stops c.args.base c.loop-byte.value 0 digits c.loop-byte.byte-index (omega arith) c.loop-byte.invariant (sym c.with_digit.ensures ∙ was))
    ∙ numeral_of-is c.args.base digits (omega arith) some

pub returns : goal.returns
returns c =
    let digits = c.args.digits.now in
    let some : 0 < length digits = omega (arith, false-eqb _ 0 (sym c.if-is_empty.false ∙ c.is_empty.ensures)) in
    number_after-ends c.args.base c.loop-byte.value 0 digits c.loop-byte.byte-index (omega arith) c.loop-byte.invariant
    ∙ numeral_of-is c.args.base digits (omega arith) some
