use Rattle.std.proofs.Common.{cond, ap, sym, ◌∙◌}
use Rattle.std.proofs.lemmas.Bool.{eq-eqb, ne_eqb}
use Rattle.std.specs.Prelude.{codes, decimal}
use Rattle.script_streams.specs.PrintLaws.{prints_as}
use Rattle.group_tables.proofs.cells.print_known.Goals as goal

pub returns-then-number-eq0 : goal.returns-then-number-eq0
returns-then-number-eq0 g c =
    prints_as (ap (λ t. cond t (codes "-") (decimal c.args.number)) (sym (eq-eqb c.args.number 0 c.if-number-eq0.true))) c.print.ensures

pub returns-else-number-eq0 : goal.returns-else-number-eq0
returns-else-number-eq0 g c =
    prints_as (ap decimal c.from.ensures ∙ ap (λ t. cond t (codes "-") (decimal c.args.number)) (sym (ne_eqb c.args.number 0 c.if-number-eq0.false))) c.print_decimal.ensures
