use Rattle.std.proofs.Common.{◌≡◌, map, take}
use Rattle.address_space.specs.SpaceWords.{space_of}
use Rattle.frame_replies.specs.ProcessWords.{named_in}
use Rattle.frame_replies.specs.FrameValues.{frame_view}
use Rattle.frame_replies.specs.Walking.{walked_value}
use Rattle.frame_replies.proofs.process.UnwoundProcess.values.Given as goal

-- the values of those that went by
abbrev pub invariant-loop-walked : goal.invariant-loop-walked
invariant-loop-walked l = map frame_view l.all.items ≡ map (walked_value (space_of l.self.space).files (named_in l.self.executables.now.images)) (take l.walked-index l.found)
