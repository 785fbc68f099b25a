use Rattle.std.proofs.Common.{◌-◌, ap, ◌∙◌}
use Rattle.case_tables.specs.Table.{spaces}
use Rattle.script_streams.specs.PrintLaws.{prints_then, prints_as}
use Rattle.case_tables.proofs.table.print_left.Goals as goal

pub returns : goal.returns
returns g c =
    prints_then c.print_cell.ensures
    (prints_then (prints_as (ap spaces (c.saturating_sub-left.ensures ∙ ap (λ n. c.args.width - n) c.cell_length.ensures)) c.print_spaces.ensures) c.print.ensures)
