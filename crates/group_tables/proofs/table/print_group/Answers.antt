use Rattle.std.proofs.Common.{map, ap, ◌∙◌}
use Rattle.script_streams.specs.PrintLaws.{prints_as, prints_then}
use Rattle.group_tables.specs.Table.{case_layout, case_rows, group_layout}
use Rattle.group_tables.specs.Values.{member_said}
use Rattle.group_tables.proofs.TableLemmas.{in_layout}
use Rattle.group_tables.proofs.table.print_group.Goals as goal

pub returns-clause-told : goal.returns-clause-told
returns-clause-told g c =
    let head = in_layout group_layout _ _ _ _ _ c.group_layout.ensures c.deref-2.ensures.value c.deref-3.ensures.value c.in_ok-head.ensures in
    let cores = in_layout case_layout _ _ _ _ _ c.case_layout.ensures c.deref-4.ensures.value c.deref-5.ensures.value
    (c.in_ok-cores.ensures ∙ ap (λ ms. case_rows c.args.zone (map member_said ms)) c.deref.ensures.value) in
    prints_then (prints_as head c.print_rows.ensures) (prints_then c.print.ensures (prints_as cores c.print_rows-2.ensures))
