use Rattle.std.proofs.Common.{◌≡◌, map, take}
use Rattle.build_replies.specs.Choosing.{choice_of}
use Rattle.build_replies.specs.Mapped.{id_view}
use Rattle.build_replies.specs.TableWords.{table_rows}
use Rattle.build_replies.proofs.alike.chosen_files.Given as goal

-- what is chosen for these is what is chosen for those that went by
abbrev pub invariant-loop-file : goal.invariant-loop-file
invariant-loop-file l = choice_of (map id_view l.some.items) (table_rows l.table) ≡ choice_of (map id_view (take l.file-index l.files)) (table_rows l.table)
