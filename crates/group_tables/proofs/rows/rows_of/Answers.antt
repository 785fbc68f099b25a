use Rattle.std.proofs.Common.{List, [], ◌∷◌, ◌++◌, map, sym, ap, ◌∙◌}
use Rattle.crash_signatures.specs.Grouping.{group_said}
use Rattle.journal_layout.specs.Case.{case_of}
use Rattle.group_tables.specs.Rows.{row_of, rows_of}
use Rattle.group_tables.specs.Values.{RowSaid}
use Rattle.group_tables.proofs.RowLemmas.{filter_map_more}
use Rattle.group_tables.proofs.rows.rows_of.Goals as goal

pub loop-group-preserved : goal.loop-group-preserved
loop-group-preserved c =
    c.in_ok-add_row.ensures
    ∙ ap (λ (rs : List RowSaid). rs ++ rows_of (map case_of c.args.cases.now) c.args.cores.now (group_said c.group-item.result ∷ [])) c.loop-group.invariant
    ∙ sym (filter_map_more group_said c.args.groups.now c.loop-group.group-index c.group-item.result c.loop-group-test.true c.group-item.is
    (row_of (map case_of c.args.cases.now) c.args.cores.now))
