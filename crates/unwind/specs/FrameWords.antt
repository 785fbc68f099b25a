-- The meaning of the code's frames that are still to come.
use Rattle.std.specs.Prelude.{◌≡◌, ◌<◌, ℕ, List, [], ◌∷◌, Option, Result, Ok, Err}
use Rattle.address_space.specs.declared.attached.Attached.{Attached}
use Rattle.seen_memory.specs.Seen.{IsImageOf, IsWanted, space_by}
use Rattle.seen_memory.specs.declared.memory.SeenMemory.{SeenMemory}
use Rattle.seen_memory.specs.declared.memory.Unread.{Unread}
use Rattle.unwind.specs.Code.{ProcessView}
use Rattle.unwind.specs.Coming.{most_by}
use Rattle.unwind.specs.Unwinding.{frames_behind, frames_from, stop_behind, stop_from}
use Rattle.unwind.specs.Words.{process_with}
use Rattle.unwind.specs.declared.executable.UnwoundExecutable.{UnwoundExecutable}
use Rattle.unwind.specs.declared.faults.Stop.{Stop}
use Rattle.unwind.specs.declared.frame.Frame.{Frame}
use Rattle.unwind.specs.declared.frames.Frames.{Frames}

-- the frames that are still to come in a process, and why they will end or have ended
unfoldable pub frames_left : ProcessView → Frames → List Frame
frames_left p f = frames_behind (frames_from p f.more) f.next

unfoldable pub stop_left : ProcessView → Frames → Stop
stop_left p f = stop_behind (stop_from p f.more) f.next

-- how many may be still to come
unfoldable pub most_left : Frames → ℕ
most_left f = most_by f.more f.next

-- The first of the frames that are still to come is given, and why they end is kept.
pub record GivesFrame (p : ProcessView) (old : Frames) (f : Frame) (new : Frames) : Type 0 where
  pub frames : frames_left p old ≡ f ∷ frames_left p new
  pub stop : stop_left p new ≡ stop_left p old

-- None is still to come, for that reason.
pub record HaveEnded (p : ProcessView) (f : Frames) (s : Stop) : Type 0 where
  pub frames : frames_left p f ≡ []
  pub stop : stop_left p f ≡ s

-- the result of a call of `next`, in each process that this one can be; or a byte is wanted
abbrev pub NextFrame : SeenMemory → List UnwoundExecutable → List Attached → Option ℕ → Frames → Result (Result Frame Stop) Unread → Frames → Type 0
NextFrame m xs others start old (Ok (Ok f)) new = (image : List ℕ) → IsImageOf m image → GivesFrame (process_with (space_by m image) xs others start) old f new
NextFrame m xs others start old (Ok (Err stop)) new = (p : ProcessView) → HaveEnded p old stop
NextFrame m xs others start old (Err u) new = IsWanted m u

-- If a frame is given, fewer may come; else nothing has changed.
abbrev pub ComeFewer : Frames → Result (Result Frame Stop) Unread → Frames → Type 0
ComeFewer old (Ok (Ok f)) new = most_left new < most_left old
ComeFewer old (Ok (Err stop)) new = new ≡ old
ComeFewer old (Err u) new = new ≡ old
