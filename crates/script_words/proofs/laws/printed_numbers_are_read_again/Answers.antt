use Rattle.script_words.proofs.LawLemmas.{number_of-decimal, number_of-hexadecimal}
use Rattle.script_words.proofs.laws.printed_numbers_are_read_again.Goals as goal

pub returns : goal.returns
returns c = record { in_decimal = number_of-decimal; in_hexadecimal = number_of-hexadecimal }
