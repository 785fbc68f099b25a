use Rattle.std.proofs.Common.{[], ◌++◌, cond, ap, sym}
use Rattle.std.proofs.lemmas.Bool.{eq-eqb, ne_eqb}
use Rattle.std.specs.Prelude.{codes}
use Rattle.script_words.specs.Printing.{hexadecimal}
use Rattle.script_streams.specs.PrintLaws.{prints_then, prints_as, prints_nothing}
use Rattle.memory_replies.proofs.frames.print_return.Goals as goal

pub returns-then-frame-eq0 : goal.returns-then-frame-eq0
returns-then-frame-eq0 g c =
    prints_as (ap (λ t. cond t (codes " ra " ++ hexadecimal c.args.ra) []) (sym (eq-eqb c.args.frame.index 0 c.if-frame-eq0.true)))
    (prints_then c.print.ensures (prints_as (ap hexadecimal c.from.ensures) c.print_hexadecimal.ensures))

pub returns-else-frame-eq0 : goal.returns-else-frame-eq0
returns-else-frame-eq0 g c =
    prints_as (ap (λ t. cond t (codes " ra " ++ hexadecimal c.args.ra) []) (sym (ne_eqb c.args.frame.index 0 c.if-frame-eq0.false))) prints_nothing
