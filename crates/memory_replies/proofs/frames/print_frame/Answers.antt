use Rattle.std.proofs.Common.{ap}
use Rattle.std.specs.Prelude.{decimal}
use Rattle.script_words.specs.Printing.{hexadecimal}
use Rattle.address_space.specs.SpaceWords.{space_of}
use Rattle.memory_replies.specs.Backtrace.{frame_line}
use Rattle.memory_replies.specs.FunctionWords.{places_by}
use Rattle.memory_replies.specs.Places.{place_words}
use Rattle.script_streams.specs.PrintLaws.{prints_as, prints_then}
use Rattle.memory_replies.proofs.frames.print_frame.Goals as goal

pub returns : goal.returns
unfolding frame_line
returns g c =
    prints_then (prints_as (ap decimal c.from.ensures) c.print_decimal.ensures)
    (prints_then c.print.ensures
    (prints_then c.print_hex_word.ensures
    (prints_then (prints_as (ap (λ o. place_words (places_by (space_of c.args.space.now).files c.args.names.now c.args.frame.pc o)) c.looked_up.ensures) c.print_where.ensures)
    (prints_then c.print-2.ensures
    (prints_then (prints_as (ap hexadecimal c.from-2.ensures) c.print_hexadecimal.ensures)
    (prints_then c.print_return.ensures c.print-3.ensures))))))
