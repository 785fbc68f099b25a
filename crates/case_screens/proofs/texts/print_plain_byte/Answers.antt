use Rattle.std.proofs.Common.{[], ◌∷◌, cond, ap, sym, ◌∙◌}
use Rattle.std.proofs.lemmas.Bool.{eq-eqb, ne_eqb}
use Rattle.script_words.specs.Printing.{shown_byte}
use Rattle.script_streams.specs.PrintLaws.{prints_as}
use Rattle.case_screens.proofs.texts.print_plain_byte.Goals as goal

pub returns-then-byte-eq32 : goal.returns-then-byte-eq32
returns-then-byte-eq32 g c =
    prints_as (ap (λ t. cond t (32 ∷ []) (shown_byte c.args.byte)) (sym (eq-eqb c.args.byte 32 c.if-byte-eq32.true))) c.print.ensures

pub returns-else-byte-eq32 : goal.returns-else-byte-eq32
returns-else-byte-eq32 g c =
    prints_as (c.as_slice.ensures.value ∙ c.print_byte.ensures ∙ ap (λ t. cond t (32 ∷ []) (shown_byte c.args.byte)) (sym (ne_eqb c.args.byte 32 c.if-byte-eq32.false)))
    c.print-else-byte-eq32.ensures
