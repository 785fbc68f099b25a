use Rattle.std.proofs.Common.{[], ◌++◌, ap, cond, map, sym, ◌∙◌}
use Rattle.std.proofs.lemmas.Bool.{le-ltb, lt-ltb}
use Rattle.std.specs.Prelude.{codes, decimal}
use Rattle.script_streams.specs.PrintLaws.{prints_as, prints_nothing, prints_then}
use Rattle.group_tables.specs.Cells.{counts_text}
use Rattle.group_tables.specs.Summary.{certain_count}
use Rattle.group_tables.specs.Values.{member_said}
use Rattle.group_tables.proofs.cells.print_counts.Goals as goal

pub returns-then-perhaps-gt0 : goal.returns-then-perhaps-gt0
returns-then-perhaps-gt0 g c =
    let some = c.certain_count.result in
    let more = c.perhaps_count-perhaps.result in
    prints_as
    (ap (λ t. decimal some ++ cond t (codes "+" ++ decimal more) []) (sym (lt-ltb 0 more c.if-perhaps-gt0.true))
    ∙ ap (λ n. counts_text n more) c.certain_count.ensures
    ∙ ap (counts_text (certain_count (map member_said c.args.members.now))) c.perhaps_count-perhaps.ensures)
    (prints_then c.print_decimal.ensures (prints_then c.print.ensures c.print_decimal-then-perhaps-gt0.ensures))

pub returns-else-perhaps-gt0 : goal.returns-else-perhaps-gt0
returns-else-perhaps-gt0 g c =
    let some = c.certain_count.result in
    let more = c.perhaps_count-perhaps.result in
    prints_as
    (ap (λ t. decimal some ++ cond t (codes "+" ++ decimal more) []) (sym (le-ltb 0 more c.if-perhaps-gt0.false))
    ∙ ap (λ n. counts_text n more) c.certain_count.ensures
    ∙ ap (counts_text (certain_count (map member_said c.args.members.now))) c.perhaps_count-perhaps.ensures)
    (prints_then c.print_decimal.ensures prints_nothing)
