use Rattle.std.proofs.Common.{◌≡◌, map, take}
use Rattle.case_info.specs.Gathering.{files_view}
use Rattle.case_info.specs.Planning.{lent_view, mapped_of}
use Rattle.case_info.proofs.plan.lent_cores.Given as goal

-- those of the cases that went by are lent
abbrev pub invariant-loop-files : goal.invariant-loop-files
invariant-loop-files l = map lent_view l.lent.items ≡ map (map mapped_of) (map files_view (take l.files-index l.cores))
