use Rattle.std.proofs.Common.{◌≡◌, take, map}
use Rattle.std.specs.List.{filter}
use Rattle.memory_replies.specs.Memory.{attached_view, is_attached}
use Rattle.frame_replies.specs.ProcessWords.{described_view}
use Rattle.frame_replies.specs.Processes.{with_code}
use Rattle.frame_replies.proofs.executables.all_described.Given as goal

-- those that went by, where their headers have no fault
abbrev pub invariant-loop-executable : goal.invariant-loop-executable
invariant-loop-executable l = map described_view l.list.items ≡ map (with_code (map attached_view l.debugs)) (filter is_attached (map attached_view (take l.executable-index l.attached)))
