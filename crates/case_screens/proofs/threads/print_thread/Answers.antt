use Rattle.std.proofs.Common.{rules, ap, ◌∙◌, w32, w64}
use Rattle.std.specs.Prelude.{decimal}
use Rattle.std.specs.Fmt.{signed_decimal}
use Rattle.script_words.specs.Printing.{hexadecimal}
use Rattle.script_streams.specs.PrintLaws.{prints_then, prints_as}
use Rattle.case_screens.proofs.TextLemmas.{signed_as}
use Rattle.case_screens.proofs.threads.print_thread.Goals as goal

pub returns : goal.returns
returns g c =
    prints_then c.print.ensures
    (prints_then (prints_as (ap signed_decimal (signed_as w64 _ _ (c.from.ensures ∙ signed_as w32 _ _ c.tid.ensures (search rules)) (search rules))) c.print_signed.ensures)
    (prints_then c.print-2.ensures
    (prints_then (prints_as (ap decimal c.from-2.ensures) c.print_decimal.ensures)
    (prints_then c.print-3.ensures
    (prints_then (prints_as (ap hexadecimal (c.from-3.ensures ∙ c.pc_of.ensures)) c.print_hexadecimal.ensures)
    (prints_then c.print_place.ensures (prints_then c.print-4.ensures c.print_frames.ensures)))))))
