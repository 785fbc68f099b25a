use Rattle.std.proofs.Common.{◌≡◌, ◌+◌, ap, arith}
use Rattle.script_streams.specs.PrintLaws.{prints_then, prints_as}
use Rattle.memory_replies.specs.Words.{hex_word}
use Rattle.memory_replies.proofs.at.print_past.Goals as goal

pub returns : goal.returns
unfolding hex_word
returns g c =
    let first = c.from.ensures in
    let more = c.from-2.ensures in
    let past : c.from.result + c.from-2.result ≡ c.args.mapping.start + c.args.mapping.memsz = omega arith in
    prints_as (ap hex_word past) (prints_then c.print_hexadecimal.ensures c.print.ensures)
