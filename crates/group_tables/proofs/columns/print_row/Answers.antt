use Rattle.std.proofs.Common.{[], ap, get_or, sym, take, ◌∙◌}
use Rattle.std.proofs.lemmas.List.{flat_map_more, take_all, take_more}
use Rattle.std.specs.List.{flat_map}
use Rattle.script_streams.specs.PrintLaws.{prints_as, prints_nothing, prints_then}
use Rattle.group_tables.specs.Columns.{by_side, placed, texts}
use Rattle.group_tables.specs.declared.columns.Column.{Column}
use Rattle.group_tables.specs.declared.columns.Side.TheVariants.{Left}
use Rattle.group_tables.proofs.columns.print_row.Goals as goal

pub loop-column-init : goal.loop-column-init
loop-column-init g c = prints_nothing

pub loop-column-preserved : goal.loop-column-preserved
loop-column-preserved g c =
    let all = c.args.columns.now in
    let i = c.loop-column.column-index in
    let text = placed (texts c.args.row.now) in
    let none : Column = record { at = 0; side = Left; width = 0 } in
    let one = get_or all i none in
    prints_as (flat_map_more text [] (take i all) one ∙ ap (flat_map text) (sym (take_more all i none c.loop-column-test.true)))
    (prints_then c.loop-column.invariant (prints_as (ap (by_side one.side one.width) c.text_at.ensures) c.print_placed.ensures))

pub returns : goal.returns
returns g c =
    let text = placed (texts c.args.row.now) in
    prints_then (prints_as (ap (flat_map text) (take_all c.loop-column.column-index c.args.columns.now c.loop-column-test.false)) c.loop-column.invariant) c.print.ensures
