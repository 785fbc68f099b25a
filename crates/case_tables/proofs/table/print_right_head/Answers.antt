use Rattle.std.proofs.Common.{◌-◌, length, ap, ◌∙◌}
use Rattle.case_tables.specs.Table.{spaces}
use Rattle.script_streams.specs.PrintLaws.{prints_then, prints_as}
use Rattle.case_tables.proofs.table.print_right_head.Goals as goal

pub returns : goal.returns
returns g c =
    prints_then (prints_as (ap spaces (c.saturating_sub.ensures ∙ ap (λ h. c.args.width - length h) c.heading-head.ensures)) c.print_spaces.ensures)
    (prints_then (prints_as c.heading-head.ensures c.print.ensures) c.print-2.ensures)
