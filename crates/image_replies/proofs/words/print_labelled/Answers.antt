use Rattle.std.proofs.Common.{rules, ap, refl, ◌∙◌, w32, w64}
use Rattle.std.specs.Fmt.{signed_decimal}
use Rattle.script_streams.specs.PrintLaws.{prints_then, prints_as}
use Rattle.image_replies.proofs.TextLemmas.{signed_as}
use Rattle.image_replies.proofs.words.print_labelled.Goals as goal

pub returns : goal.returns
returns g c =
    prints_then c.print.ensures (prints_as (ap signed_decimal (signed_as w64 _ _ (c.from.ensures ∙ signed_as w32 c.args.number c.args.number refl (search rules)) (search rules))) c.print_signed.ensures)
