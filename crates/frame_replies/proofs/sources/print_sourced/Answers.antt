use Rattle.script_streams.specs.PrintLaws.{prints_then}
use Rattle.frame_replies.specs.FrameSources.{source_line}
use Rattle.frame_replies.proofs.sources.print_sourced.Goals as goal

pub returns : goal.returns
unfolding source_line
returns g c =
    prints_then c.print_decimal.ensures
    (prints_then c.print.ensures
    (prints_then c.print_hex_word.ensures
    (prints_then c.print_frame_place.ensures
    (prints_then c.print-2.ensures
    (prints_then c.print_source.ensures c.print-3.ensures)))))
