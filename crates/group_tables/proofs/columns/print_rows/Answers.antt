use Rattle.std.proofs.Common.{sym}
use Rattle.script_streams.specs.PrintLaws.{prints_as, prints_then}
use Rattle.group_tables.specs.Columns.{row_text, texts}
use Rattle.group_tables.proofs.RowLemmas.{text_more}
use Rattle.group_tables.proofs.columns.print_rows.Goals as goal

pub loop-row-preserved : goal.loop-row-preserved
loop-row-preserved g c =
    prints_as (sym (text_more texts c.args.rows.now c.loop-row.row-index c.row-item.result c.loop-row-test.true c.row-item.is (row_text c.args.columns.now)))
    (prints_then c.loop-row.invariant c.print_row.ensures)
