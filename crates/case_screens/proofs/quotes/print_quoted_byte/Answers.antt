use Rattle.std.proofs.Common.{[], ◌∷◌, ap, cond, sym}
use Rattle.std.proofs.lemmas.Bool.{ne_eqb}
use Rattle.script_words.specs.Printing.{escape}
use Rattle.script_streams.specs.PrintLaws.{prints_as}
use Rattle.case_screens.specs.Quotes.{quoted_byte}
use Rattle.case_screens.proofs.quotes.print_quoted_byte.Goals as goal

pub returns-then-byte-eq39 : goal.returns-then-byte-eq39
returns-then-byte-eq39 g c = prints_as (ap quoted_byte (sym c.if-byte-eq39.true)) c.print.ensures

pub returns-else-byte-eq39 : goal.returns-else-byte-eq39
returns-else-byte-eq39 g c =
    prints_as (ap (λ t. cond t (escape c.args.byte) (c.args.byte ∷ [])) (sym (ne_eqb c.args.byte 39 c.if-byte-eq39.false))) c.print-else-byte-eq39.ensures
