use Rattle.std.proofs.Common.{◌≡◌, map, take}
use Rattle.build_replies.specs.Choosing.{choice_of}
use Rattle.build_replies.specs.ChoosingWords.{choice_view}
use Rattle.build_replies.specs.Mapped.{id_view}
use Rattle.build_replies.specs.TableWords.{table_rows}
use Rattle.build_replies.proofs.choosing.ChosenExecutables.of.Given as goal

-- what is chosen for those that went by
abbrev pub invariant-loop-file : goal.invariant-loop-file
invariant-loop-file l = choice_view l.chosen ≡ choice_of (map id_view (take l.file-index l.files)) (table_rows l.table)
