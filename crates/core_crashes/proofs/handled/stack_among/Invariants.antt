use Rattle.std.proofs.Common.{◌≡◌, drop, find, map}
use Rattle.frame_replies.specs.FrameValues.{frame_view}
use Rattle.core_crashes.specs.Handled.{is_of_signal}
use Rattle.core_crashes.proofs.handled.stack_among.Given as goal

-- the first of all is the first of those that are left
abbrev pub invariant-loop-frame : goal.invariant-loop-frame
invariant-loop-frame l = find is_of_signal (map frame_view l.frames) ≡ find is_of_signal (map frame_view (drop l.frame-index l.frames))
