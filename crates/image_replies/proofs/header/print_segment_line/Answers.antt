use Rattle.std.proofs.Common.{ap}
use Rattle.image_replies.specs.Lines.{number_word}
use Rattle.script_words.specs.Printing.{hexadecimal}
use Rattle.script_streams.specs.PrintLaws.{prints_then, prints_as}
use Rattle.image_replies.proofs.header.print_segment_line.Goals as goal

pub returns : goal.returns
returns g c =
    prints_then (prints_as (ap number_word c.from.ensures) c.print_number.ensures)
    (prints_then c.print_type.ensures
    (prints_then c.print.ensures
    (prints_then (prints_as (c.flag_letters.ensures) c.print-2.ensures)
    (prints_then c.print-3.ensures
    (prints_then c.print_address.ensures
    (prints_then c.print_address-2.ensures
    (prints_then c.print_address-3.ensures
    (prints_then (prints_as (ap hexadecimal c.from-2.ensures) c.print_hexadecimal.ensures) c.print-4.ensures))))))))
