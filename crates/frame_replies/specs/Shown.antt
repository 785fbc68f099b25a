-- What is shown of a thread's frames.
use Rattle.std.specs.Prelude.{◌≡◌, ℕ, List, ◌∷◌, ◌++◌, slice_get}
use Rattle.address_space.specs.Source.{ExecutableView}
use Rattle.build_replies.specs.Choosing.{choice_for}
use Rattle.image_replies.specs.Lines.{numbered_lines}
use Rattle.memory_replies.specs.Memory.{memory_of}
use Rattle.unwind.specs.Stands.{EachStands}
use Rattle.unwind.specs.Unwinding.{IsUnwoundFrom, first_frame, most}
use Rattle.unwind.specs.declared.faults.Stop.{Stop}
use Rattle.unwind.specs.declared.frame.Frame.{Frame}
use Rattle.frame_replies.specs.FrameLines.{frame_line, stop_line}
use Rattle.frame_replies.specs.FrameRegisters.{frame_answer, registers_of}
use Rattle.frame_replies.specs.Processes.{named_among, process_in}

-- The lines are those of a frame with the thread's registers and of the frames after it, and of why these end. Each frame after the first follows by a rule. What is told
-- of the registers of the frame of a number is of the one in that place.
pub record IsShown (b : List ℕ) (stored : List ExecutableView) (t : ℕ) (lines desc : List ℕ) (behind : List Frame) (stop : Stop) : Type 0 where
  pub told : lines ≡ numbered_lines (frame_line (memory_of b (choice_for b stored).used) (named_among (choice_for b stored))) 0 (first_frame desc ∷ behind) ++ stop_line stop
  pub unwound : IsUnwoundFrom (process_in b (choice_for b stored)) most (first_frame desc) behind stop
  pub stands : EachStands (process_in b (choice_for b stored)) (first_frame desc) behind
  pub registers : (i : ℕ) → frame_answer b stored t i ≡ registers_of (slice_get (first_frame desc ∷ behind) i)
