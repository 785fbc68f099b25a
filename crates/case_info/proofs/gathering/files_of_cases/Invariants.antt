use Rattle.std.proofs.Common.{map, take}
use Rattle.case_info.specs.Gathering.{SeesEach, files_view, listed_view}
use Rattle.case_info.proofs.gathering.files_of_cases.Given as goal

-- the files of those that went by are seen
abbrev pub invariant-loop-case : goal.invariant-loop-case
invariant-loop-case g l = SeesEach g.D.Disk l.initial.archive (map listed_view (take l.case-index l.cases)) (map files_view l.files.items) l.archive
