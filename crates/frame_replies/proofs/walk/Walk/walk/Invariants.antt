use Rattle.std.proofs.Common.{ℕ, List}
use Rattle.seen_memory.specs.Seen.{IsImageOf, space_by}
use Rattle.unwind.specs.FrameWords.{most_left}
use Rattle.unwind.specs.Words.{process_with}
use Rattle.frame_replies.specs.Walking.{WalksOn}
use Rattle.frame_replies.proofs.walk.Walk.walk.Given as goal

abbrev pub invariant-loop-stop : goal.invariant-loop-stop
invariant-loop-stop l = (image : List ℕ) → IsImageOf l.fn.memory image → WalksOn (process_with (space_by l.fn.memory image) l.executables l.others l.start) l.initial.self l.self

abbrev pub decreases-loop-stop : goal.decreases-loop-stop
decreases-loop-stop l = most_left l.self.left
