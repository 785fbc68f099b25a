use Rattle.std.proofs.Common.{ap, sym}
use Rattle.case_tables.specs.Table.{spaces}
use Rattle.script_streams.specs.PrintLaws.{prints_as, prints_then}
use Rattle.group_tables.specs.Columns.{by_side}
use Rattle.group_tables.specs.declared.columns.Side.{Side}
use Rattle.group_tables.proofs.columns.print_placed.Goals as goal

pub returns-in-Left : goal.returns-in-Left
returns-in-Left g c =
    prints_as (ap (λ (s : Side). by_side s c.args.column.width c.args.text.now) (sym c.in-Left.is))
    (prints_then c.print.ensures (prints_then (prints_as (ap spaces c.saturating_sub-left.ensures) c.print_spaces.ensures) c.print-in-Left.ensures))

pub returns-in-Right : goal.returns-in-Right
returns-in-Right g c =
    prints_as (ap (λ (s : Side). by_side s c.args.column.width c.args.text.now) (sym c.in-Right.is))
    (prints_then (prints_as (ap spaces c.saturating_sub-left.ensures) c.print_spaces-in-Right.ensures) (prints_then c.print-in-Right.ensures c.print-in-Right-2.ensures))

pub returns-in-End : goal.returns-in-End
returns-in-End g c = prints_as (ap (λ (s : Side). by_side s c.args.column.width c.args.text.now) (sym c.in-End.is)) c.print-in-End.ensures
