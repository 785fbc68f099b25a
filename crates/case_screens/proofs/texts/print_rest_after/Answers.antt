use Rattle.std.proofs.Common.{[], ◌-◌, cond, ap, sym}
use Rattle.std.proofs.lemmas.Bool.{le-ltb, lt-ltb}
use Rattle.script_streams.specs.PrintLaws.{prints_as, prints_nothing}
use Rattle.case_screens.specs.Texts.{rest_line}
use Rattle.case_screens.proofs.texts.print_rest_after.Goals as goal

pub returns-then-count-most : goal.returns-then-count-most
returns-then-count-most g c =
    prints_as (ap (λ t. cond t (rest_line c.args.label.now (c.args.count - c.args.most)) []) (sym (lt-ltb c.args.most c.args.count c.if-count-most.true))) c.print_rest.ensures

pub returns-else-count-most : goal.returns-else-count-most
returns-else-count-most g c =
    prints_as (ap (λ t. cond t (rest_line c.args.label.now (c.args.count - c.args.most)) []) (sym (le-ltb c.args.most c.args.count c.if-count-most.false))) prints_nothing
