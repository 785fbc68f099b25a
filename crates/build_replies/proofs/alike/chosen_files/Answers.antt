use Rattle.std.proofs.Common.{List, map, ap, sym, ◌∙◌, arith}
use Rattle.std.proofs.lemmas.List.{take_all}
use Rattle.address_space.specs.Source.{ExecutableView}
use Rattle.build_replies.specs.Choosing.{choice_of}
use Rattle.build_replies.specs.ChoosingLaws.{chosen_as}
use Rattle.build_replies.specs.Mapped.{id_view}
use Rattle.build_replies.specs.TableWords.{table_rows}
use Rattle.build_replies.specs.declared.ids.FrontId.{FrontId}
use Rattle.build_replies.proofs.alike.chosen_files.Goals as goal

pub loop-file-init : goal.loop-file-init
loop-file-init c = ap (λ (fs : List FrontId). choice_of (map id_view fs) (table_rows c.in_ok-table.table)) c.new-some.ensures.items

pub loop-file-preserved : goal.loop-file-preserved
loop-file-preserved c =
    chosen_as (table_rows c.in_ok-table.table) (map id_view c.loop-file.some.items) (map id_view c.add_chosen.new.some.items) c.args.files.now c.loop-file.file-index c.file-item.result c.loop-file-test.true c.file-item.is c.loop-file.invariant
    c.in_ok-add_chosen.ensures

pub returns : goal.returns
returns c =
    let some = c.loop-file.some.items in
    ap (λ (xs : List ExecutableView). choice_of (map id_view some) xs) (sym c.in_ok-table.ensures)
    ∙ c.loop-file.invariant
    ∙ ap (λ (fs : List FrontId). choice_of (map id_view fs) (table_rows c.in_ok-table.table)) (take_all c.loop-file.file-index c.args.files.now (omega (arith, c.loop-file-test.false)))
    ∙ ap (λ (xs : List ExecutableView). choice_of (map id_view c.args.files.now) xs) c.in_ok-table.ensures
