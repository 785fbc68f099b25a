use Rattle.std.proofs.Common.{ap, ◌∙◌}
use Rattle.script_streams.specs.PrintLaws.{prints_then, prints_as}
use Rattle.script_words.specs.Printing.{hexadecimal}
use Rattle.case_tables.specs.Table.{left_text}
use Rattle.case_screens.specs.Frames.{source_text, where_text}
use Rattle.case_screens.proofs.frames.print_row.Goals as goal

pub returns : goal.returns
returns g c =
    prints_then c.print_label.ensures
    (prints_then (prints_as (ap (left_text 2) (c.as_slice.ensures.value ∙ c.print_decimal.ensures)) c.print_left.ensures)
    (prints_then (prints_as (ap (left_text 14) (c.as_slice-2.ensures.value ∙ c.print_hexadecimal.ensures ∙ ap hexadecimal c.from.ensures)) c.print_left-2.ensures)
    (prints_then (prints_as (ap (where_text c.args.frame.now) c.frame_file.ensures) c.print_where.ensures)
    (prints_then (prints_as (ap source_text c.line_of.ensures) c.print_source.ensures) c.print.ensures))))
