use Rattle.std.proofs.Common.{rules, ap, ◌∙◌}
use Rattle.std.proofs.Common.{w16, w32, w64}
use Rattle.image_replies.proofs.TextLemmas.{signed_as}
use Rattle.std.specs.Fmt.{signed_decimal}
use Rattle.script_words.specs.Printing.{hexadecimal}
use Rattle.script_streams.specs.PrintLaws.{prints_then, prints_as}
use Rattle.image_replies.proofs.threads.print_thread_line.Goals as goal

pub returns : goal.returns
returns g c =
    prints_then c.print_number.ensures
    (prints_then (prints_as (ap signed_decimal (signed_as w64 _ _ (c.from.ensures ∙ signed_as w32 _ _ c.tid.ensures (search rules)) (search rules))) c.print_signed.ensures)
    (prints_then c.print.ensures
    (prints_then (prints_as (ap signed_decimal (signed_as w64 _ _ (c.from-2.ensures ∙ signed_as w16 _ _ c.signal.ensures (search rules)) (search rules))) c.print_signed-2.ensures)
    (prints_then c.print-2.ensures
    (prints_then (prints_as (ap hexadecimal (c.from-3.ensures ∙ c.word_of.ensures)) c.print_hexadecimal.ensures) c.print-3.ensures)))))
