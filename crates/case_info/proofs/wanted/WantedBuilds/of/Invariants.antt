use Rattle.std.proofs.Common.{◌≡◌, [], map, take}
use Rattle.case_info.specs.Gathering.{files_view}
use Rattle.case_info.specs.WantWords.{builds_in}
use Rattle.case_info.specs.Wants.{with_each_core}
use Rattle.case_info.proofs.wanted.WantedBuilds.of.Given as goal

-- what the cores that went by want is there
abbrev pub invariant-loop-files : goal.invariant-loop-files
invariant-loop-files l = builds_in l.wanted ≡ with_each_core [] (map files_view (take l.files-index l.cores))
