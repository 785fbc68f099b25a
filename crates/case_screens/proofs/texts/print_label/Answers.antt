use Rattle.std.proofs.Common.{cond, ap, sym}
use Rattle.std.proofs.lemmas.Bool.{eq-eqb, ne_eqb}
use Rattle.script_streams.specs.PrintLaws.{prints_as}
use Rattle.case_screens.specs.Texts.{margin}
use Rattle.case_screens.proofs.texts.print_label.Goals as goal

pub returns-then-row-eq0 : goal.returns-then-row-eq0
returns-then-row-eq0 g c = prints_as (ap (λ t. cond t c.args.label.now margin) (sym (eq-eqb c.args.row 0 c.if-row-eq0.true))) c.print.ensures

pub returns-else-row-eq0 : goal.returns-else-row-eq0
returns-else-row-eq0 g c = prints_as (ap (λ t. cond t c.args.label.now margin) (sym (ne_eqb c.args.row 0 c.if-row-eq0.false))) c.print-else-row-eq0.ensures
