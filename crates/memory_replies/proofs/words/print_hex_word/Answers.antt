use Rattle.std.proofs.Common.{ap}
use Rattle.script_words.specs.Printing.{hexadecimal}
use Rattle.script_streams.specs.PrintLaws.{prints_then, prints_as}
use Rattle.memory_replies.specs.Words.{hex_word}
use Rattle.memory_replies.proofs.words.print_hex_word.Goals as goal

pub returns : goal.returns
unfolding hex_word
returns g c = prints_then (prints_as (ap hexadecimal c.from.ensures) c.print_hexadecimal.ensures) c.print.ensures
