use Rattle.std.proofs.Common.{map, ap}
use Rattle.crash_signatures.specs.WordViews.{said}
use Rattle.script_streams.specs.PrintLaws.{prints_as, prints_then}
use Rattle.script_words.specs.Printing.{shown}
use Rattle.group_tables.specs.Identity.{word_lines}
use Rattle.group_tables.proofs.identity.print_lines.Goals as goal

pub returns : goal.returns
returns g c =
    prints_then (prints_as (ap shown c.deref.ensures.value) c.print_text.ensures)
    (prints_then c.print.ensures
    (prints_then c.print_signal.ensures
    (prints_then c.print-2.ensures
    (prints_then (prints_as (ap (λ ws. word_lines (map said ws)) c.as_slice.ensures.value) c.print_word_lines.ensures) c.print_end.ensures))))
