use Rattle.std.proofs.Common.{List, map, ap, ◌∙◌, arith}
use Rattle.std.proofs.lemmas.List.{take_all}
use Rattle.std.specs.Option.{option_map}
use Rattle.address_space.specs.Source.{ExecutableView}
use Rattle.address_space.specs.SpaceWords.{attached_view}
use Rattle.build_replies.specs.Choosing.{choice_of}
use Rattle.build_replies.specs.ChoosingLaws.{next_chosen}
use Rattle.build_replies.specs.ChoosingWords.{choice_view, chosen_view}
use Rattle.build_replies.specs.Mapped.{id_view}
use Rattle.build_replies.specs.TableWords.{table_rows}
use Rattle.build_replies.specs.declared.ids.FrontId.{FrontId}
use Rattle.build_replies.proofs.choosing.ChosenExecutables.of.Goals as goal

pub loop-file-init : goal.loop-file-init
loop-file-init c = c.new-chosen.ensures

pub loop-file-preserved : goal.loop-file-preserved
loop-file-preserved c =
    next_chosen (table_rows c.in_ok-table.table) c.args.files.now c.loop-file.file-index c.file-item.result (chosen_view c.for_file-executable.result) (option_map attached_view c.debug_of.result) (choice_view c.loop-file.chosen) (choice_view c.add.new.self)
    (choice_view c.add_debug.new.self) c.loop-file-test.true c.file-item.is c.loop-file.invariant c.for_file-executable.ensures c.debug_of.ensures c.in_ok-add.ensures c.in_ok-add_debug.ensures

pub returns : goal.returns
returns c =
    c.loop-file.invariant
    ∙ ap (λ (fs : List FrontId). choice_of (map id_view fs) (table_rows c.in_ok-table.table)) (take_all c.loop-file.file-index c.args.files.now (omega (arith, c.loop-file-test.false)))
    ∙ ap (λ (xs : List ExecutableView). choice_of (map id_view c.args.files.now) xs) c.in_ok-table.ensures
