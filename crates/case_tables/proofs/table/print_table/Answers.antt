use Rattle.std.proofs.Common.{ap, map}
use Rattle.std.specs.List.{flat_map}
use Rattle.journal_layout.specs.Case.{case_of}
use Rattle.case_tables.specs.Cells.{heading}
use Rattle.case_tables.specs.Table.{row_text, case_row}
use Rattle.case_tables.specs.declared.table.Widths.{Widths}
use Rattle.script_streams.specs.PrintLaws.{prints_then, prints_as}
use Rattle.case_tables.proofs.table.print_table.Goals as goal

pub returns : goal.returns
returns g c =
    let cases = map (λ e. case_of e.now) c.args.cases.now in
    let heads = prints_as (ap (λ (w : Widths). row_text w heading) c.widths_of-widths.ensures) c.print_heads.ensures in
    let rows = prints_as (ap (λ (w : Widths). flat_map (case_row c.args.zone w) cases) c.widths_of-widths.ensures) c.print_rows.ensures in
    record { is_table = prints_then heads rows }
