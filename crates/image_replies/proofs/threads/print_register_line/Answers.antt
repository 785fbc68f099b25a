use Rattle.std.proofs.Common.{ap, ◌∙◌}
use Rattle.script_words.specs.Printing.{hexadecimal}
use Rattle.script_streams.specs.PrintLaws.{prints_then, prints_as}
use Rattle.image_replies.proofs.threads.print_register_line.Goals as goal

pub returns : goal.returns
returns g c =
    prints_then (prints_as (c.as_bytes.ensures.value ∙ c.register_name.ensures) c.print.ensures)
    (prints_then c.print-2.ensures
    (prints_then (prints_as (ap hexadecimal (c.from.ensures ∙ c.word_of.ensures)) c.print_hexadecimal.ensures) c.print-3.ensures))
