use Rattle.std.proofs.Common.{◌≡◌, take, map}
use Rattle.build_replies.specs.BuildsWords.{numbered_view}
use Rattle.memory_replies.specs.Memory.{attached_view}
use Rattle.case_queries.specs.CollectingWords.{executable_view, read_as}
use Rattle.case_queries.proofs.collect_executables.lent.Given as goal

-- those that went by
abbrev pub invariant-loop-executable : goal.invariant-loop-executable
invariant-loop-executable l = record {
  attached : map attached_view l.attached.items ≡ map executable_view (take l.executable-index l.executables);
  cases : map numbered_view l.cases.items ≡ map read_as (take l.executable-index l.executables);
}
