use Rattle.std.proofs.Common.{◌≡◌, map, take}
use Rattle.std.specs.Option.{option_map}
use Rattle.address_space.specs.SpaceWords.{space_of}
use Rattle.frame_replies.specs.LineWords.{source_view}
use Rattle.frame_replies.specs.FrameSources.{frame_source}
use Rattle.frame_replies.specs.FrameValues.{frame_view}
use Rattle.frame_replies.specs.ProcessWords.{named_in}
use Rattle.frame_replies.proofs.process.UnwoundProcess.sources.Given as goal

-- those of the frames that went by, by the same executables
abbrev pub invariant-loop-frame : goal.invariant-loop-frame
invariant-loop-frame l =
    (l.reader.images.now ≡ l.self.executables.now.images.items)
    × (map (option_map source_view) l.all.items ≡ map (frame_source (space_of l.self.space).files (named_in l.self.executables.now.images)) (map frame_view (take l.frame-index l.frames)))
