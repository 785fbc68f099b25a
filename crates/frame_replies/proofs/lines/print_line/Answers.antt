use Rattle.std.proofs.Common.{ap}
use Rattle.std.specs.Prelude.{decimal}
use Rattle.frame_replies.specs.FrameLines.{value_line}
use Rattle.script_streams.specs.PrintLaws.{prints_as, prints_then}
use Rattle.frame_replies.proofs.lines.print_line.Goals as goal

pub returns : goal.returns
unfolding value_line
returns g c =
    prints_then (prints_as (ap decimal c.from.ensures) c.print_decimal.ensures)
    (prints_then c.print.ensures
    (prints_then c.print_hex_word.ensures
    (prints_then c.print_frame_place.ensures
    (prints_then c.print-2.ensures
    (prints_then c.print_known.ensures
    (prints_then c.print_return.ensures c.print-3.ensures))))))
