use Rattle.std.proofs.Common.{◌≡◌, map, take}
use Rattle.build_replies.specs.Builds.{values_of}
use Rattle.build_replies.specs.Mapped.{build_view, id_view}
use Rattle.build_replies.specs.TableWords.{table_rows}
use Rattle.build_replies.proofs.answers.answers_of.Given as goal

-- those of the files that went by
abbrev pub invariant-loop-file : goal.invariant-loop-file
invariant-loop-file l = map build_view l.rows.items ≡ values_of (table_rows l.table) (map id_view (take l.file-index l.files))
