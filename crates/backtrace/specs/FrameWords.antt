-- The meaning of the code's iterator over frames.
use Rattle.std.specs.Prelude.{◌≡◌, ℕ, ◌-◌, List, Option}
use Rattle.std.specs.Iterator.{YieldsFirst}
use Rattle.backtrace.specs.Chain.{Memory, frames_behind, frames_from, stop_behind, stop_from}
use Rattle.backtrace.specs.MemoryWords.{words_by}
use Rattle.backtrace.specs.declared.frames.Frame.{Frame}
use Rattle.backtrace.specs.declared.frames.Frames.{Frames}
use Rattle.backtrace.specs.declared.frames.Stop.{Stop}

-- a frame and those after it, as far as number 1,023
abbrev pub rest_from : Memory → Option ℕ → Frame → List Frame
rest_from m before f = frames_from m (1023 - f.index) before f

abbrev pub end_from : Memory → Option ℕ → Frame → Stop
end_from m before f = stop_from m (1023 - f.index) before f

-- the frames that are still to come, and why they will end or have ended
unfoldable pub frames_left : Frames → List Frame
frames_left f = frames_behind (rest_from (words_by f.words) f.before) f.next

unfoldable pub stop_left : Frames → Stop
stop_left f = stop_behind (end_from (words_by f.words) f.before) f.next

-- a call of `next`: it gives the first of the frames that are still to come, if there is one, and keeps why they end
pub record GivesFrames (old : Frames) (result : Option Frame) (new : Frames) : Type 0 where
  pub frames : YieldsFirst frames_left old result new
  pub stop : stop_left new ≡ stop_left old
