use Rattle.std.proofs.Common.{rules, ap, ◌∙◌}
use Rattle.std.proofs.Common.{w8, w32}
use Rattle.image_replies.proofs.TextLemmas.{signed_as}
use Rattle.std.specs.Prelude.{◌++◌, ◌∷◌, [], codes, decimal}
use Rattle.std.specs.Fmt.{signed_decimal}
use Rattle.script_words.specs.Printing.{hexadecimal, shown}
use Rattle.script_streams.specs.PrintLaws.{prints_then, prints_as}
use Rattle.image_replies.proofs.process.print_state.Goals as goal

pub returns : goal.returns
returns g c =
    prints_then c.print.ensures
    (prints_then (prints_as (ap decimal (c.from.ensures ∙ c.pr_state.ensures)) c.print_decimal.ensures)
    (prints_then c.print-2.ensures
    (prints_then (prints_as (ap (λ b. shown (b ∷ [])) c.pr_sname.ensures) c.print_text.ensures)
    (prints_then c.print-3.ensures
    (prints_then (prints_as (ap decimal (c.from-2.ensures ∙ c.pr_zomb.ensures)) c.print_decimal-2.ensures)
    (prints_then (prints_as (ap (λ z. codes " nice " ++ signed_decimal z) (signed_as w32 _ _ (c.from-3.ensures ∙ signed_as w8 _ _ c.pr_nice.ensures (search rules)) (search rules))) c.print_labelled.ensures)
    (prints_then c.print-4.ensures
    (prints_then (prints_as (ap hexadecimal (c.from-4.ensures ∙ c.pr_flag.ensures)) c.print_hexadecimal.ensures) c.print-5.ensures))))))))
