use Rattle.script_streams.specs.PrintLaws.{prints_as}
use Rattle.group_tables.specs.Table.{group_layout}
use Rattle.group_tables.proofs.TableLemmas.{in_layout}
use Rattle.group_tables.proofs.table.print_groups.Goals as goal

pub returns-clause-told : goal.returns-clause-told
returns-clause-told g c =
    prints_as (in_layout group_layout _ _ _ _ _ c.group_layout-columns.ensures c.deref.ensures.value c.deref-2.ensures.value c.in_ok-texts.ensures) c.print_rows.ensures
