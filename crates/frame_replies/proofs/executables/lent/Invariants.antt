use Rattle.std.proofs.Common.{◌≡◌, take, map}
use Rattle.unwind.specs.Words.{executable_view}
use Rattle.frame_replies.specs.ProcessWords.{described_view}
use Rattle.frame_replies.proofs.executables.lent.Given as goal

-- those that went by
abbrev pub invariant-loop-image : goal.invariant-loop-image
invariant-loop-image l = map executable_view l.all.items ≡ map described_view (take l.image-index l.list)
