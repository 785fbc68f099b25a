use Rattle.std.proofs.Common.{◌≡◌, map, take}
use Rattle.case_info.specs.Gathering.{file_view}
use Rattle.case_info.specs.Planning.{mapped_of, mapped_view}
use Rattle.case_info.proofs.plan.lent_files.Given as goal

-- those that went by are lent
abbrev pub invariant-loop-file : goal.invariant-loop-file
invariant-loop-file l = map mapped_view l.lent.items ≡ map mapped_of (map file_view (take l.file-index l.files))
