use Rattle.std.proofs.Common.{◌≡◌, ◌+◌, ◌*◌, ap, arith}
use Rattle.script_words.specs.Printing.{hexadecimal}
use Rattle.script_streams.specs.PrintLaws.{prints_then, prints_as}
use Rattle.memory_replies.specs.Words.{hex_word}
use Rattle.memory_replies.proofs.dump.print_row_address.Goals as goal

pub returns : goal.returns
unfolding hex_word
returns g c =
    let wide = c.from.ensures in
    let row = c.from-2.ensures in
    let sum : c.from.result + 16 * c.from-2.result ≡ c.args.first + 16 * c.args.i = omega arith in
    prints_then (prints_as (ap hexadecimal sum) c.print_hexadecimal.ensures) c.print.ensures
