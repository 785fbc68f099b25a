use Rattle.std.proofs.Common.{◌≡◌, map, take}
use Rattle.build_replies.specs.Mapped.{build_view}
use Rattle.case_info.specs.Gathering.{file_of, file_view}
use Rattle.case_info.proofs.kept_files.files_of_rows.Given as goal

-- those that went by are kept
abbrev pub invariant-loop-row : goal.invariant-loop-row
invariant-loop-row l = map file_view l.files.items ≡ map file_of (map build_view (take l.row-index l.rows))
