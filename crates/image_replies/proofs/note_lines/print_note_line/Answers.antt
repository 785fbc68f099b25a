use Rattle.std.proofs.Common.{ap}
use Rattle.image_replies.specs.Lines.{address_word}
use Rattle.script_streams.specs.PrintLaws.{prints_then, prints_as}
use Rattle.image_replies.proofs.note_lines.print_note_line.Goals as goal

pub returns : goal.returns
returns g c =
    prints_then c.print_number.ensures
    (prints_then c.print_text.ensures
    (prints_then c.print.ensures
    (prints_then (prints_as (ap address_word c.from.ensures) c.print_address.ensures)
    (prints_then c.print_decimal.ensures c.print-2.ensures))))
