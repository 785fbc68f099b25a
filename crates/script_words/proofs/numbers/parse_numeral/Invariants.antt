use Rattle.std.proofs.Common.{◌≡◌, drop}
use Rattle.script_words.proofs.NumberLemmas.{number_after}
use Rattle.script_words.proofs.numbers.parse_numeral.Given as goal

-- what is left gives, after the number so far, what all digits give
abbrev pub invariant-loop-byte : goal.invariant-loop-byte
invariant-loop-byte l = number_after l.base l.value (drop l.byte-index l.digits) ≡ number_after l.base 0 l.digits
