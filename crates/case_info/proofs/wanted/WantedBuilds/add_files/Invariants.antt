use Rattle.std.proofs.Common.{◌≡◌, map, take}
use Rattle.case_info.specs.Gathering.{file_view}
use Rattle.case_info.specs.WantWords.{builds_in}
use Rattle.case_info.specs.Wants.{with_all}
use Rattle.case_info.proofs.wanted.WantedBuilds.add_files.Given as goal

-- what those that went by want is there
abbrev pub invariant-loop-file : goal.invariant-loop-file
invariant-loop-file l = builds_in l.self ≡ with_all (builds_in l.initial.self) (map file_view (take l.file-index l.files))
