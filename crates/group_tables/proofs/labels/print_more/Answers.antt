use Rattle.std.proofs.Common.{[], ◌++◌, cond, ap, sym}
use Rattle.std.proofs.lemmas.Bool.{le-ltb, lt-ltb}
use Rattle.std.specs.Prelude.{codes, decimal}
use Rattle.script_streams.specs.PrintLaws.{prints_as, prints_nothing, prints_then}
use Rattle.group_tables.proofs.labels.print_more.Goals as goal

pub returns-then-count-gt0 : goal.returns-then-count-gt0
returns-then-count-gt0 g c =
    prints_as (ap (λ t. cond t (codes ",+" ++ decimal c.args.count) []) (sym (lt-ltb 0 c.args.count c.if-count-gt0.true)))
    (prints_then c.print.ensures c.print_decimal.ensures)

pub returns-else-count-gt0 : goal.returns-else-count-gt0
returns-else-count-gt0 g c =
    prints_as (ap (λ t. cond t (codes ",+" ++ decimal c.args.count) []) (sym (le-ltb 0 c.args.count c.if-count-gt0.false))) prints_nothing
