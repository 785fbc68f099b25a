-- The frames of a thread's stack by call frame information as values, each with the function that it executes, and why they end.
use Rattle.std.specs.Prelude.{ℕ, Bool, List, map, Option}
use Rattle.std.specs.Option.{option_map}
use Rattle.address_space.specs.Source.{Space, ExecutableView}
use Rattle.build_replies.specs.Choosing.{choice_for}
use Rattle.core_notes.specs.FileList.{FileView}
use Rattle.memory_replies.specs.NamedWords.{place_view}
use Rattle.memory_replies.specs.Naming.{NamedFile, function_of}
use Rattle.memory_replies.specs.Places.{PlaceView}
use Rattle.unwind.specs.ByTrampoline.{is_trampoline}
use Rattle.unwind.specs.Code.{ProcessView, looked_up as looked_up_in}
use Rattle.unwind.specs.Registers.{ra, sp, known}
use Rattle.unwind.specs.Unwinding.{unwound, stop_of}
use Rattle.unwind.specs.declared.faults.Stop.{Stop}
use Rattle.unwind.specs.declared.frame.Frame.{Frame}
use Rattle.frame_replies.specs.Processes.{named_among, process_in, state_of}
use Rattle.frame_replies.specs.declared.values.FrameAnswer.{FrameAnswer}
use Rattle.frame_replies.specs.declared.values.FramesAnswer.{FramesAnswer}

-- a frame: its pc, the address that is looked up for it, whether a signal handler returns there, the function at that address, and the
-- registers of the stack and of the return address
pub record FrameValue : Type 0 where
  pub pc : ℕ
  pub looked_up : Option ℕ
  pub signal : Bool
  pub function : Option PlaceView
  pub stack : Option ℕ
  pub returns : Option ℕ

-- with these mapped files and executables, and whether a signal handler returns there
abbrev pub value_with : List FileView → List NamedFile → Bool → Frame → FrameValue
value_with files named at_signal f = record {
  pc = f.pc;
  looked_up = looked_up_in f;
  signal = at_signal;
  function = function_of files named f.pc (looked_up_in f);
  stack = known f.registers sp;
  returns = known f.registers ra;
}

abbrev pub frame_value : Space → List NamedFile → Frame → FrameValue
frame_value space named f = value_with space.files named (is_trampoline space f.pc) f

-- the frames of a thread, from frame 0 on, and why no other comes
pub record ThreadFrames : Type 0 where
  pub frames : List FrameValue
  pub stop : Stop

-- of the thread with this state
abbrev pub thread_frames : ProcessView → List NamedFile → List ℕ → ThreadFrames
thread_frames p named desc = record { frames = map (frame_value p.space named) (unwound p desc); stop = stop_of p desc }

-- of a thread, by its number among the NT_PRSTATUS, with the executables that are stored under the names of the mapped files; none, if the
-- core has fewer threads
unfoldable pub frames_of : List ℕ → List ExecutableView → ℕ → Option ThreadFrames
frames_of b stored t = option_map (thread_frames (process_in b (choice_for b stored)) (named_among (choice_for b stored))) (state_of b t)

-- what the code's answers mean
abbrev pub frame_view : FrameAnswer → FrameValue
frame_view f = record {
  pc = f.pc;
  looked_up = f.looked_up;
  signal = f.signal;
  function = option_map place_view f.function;
  stack = f.stack;
  returns = f.returns;
}

abbrev pub frames_view : FramesAnswer → ThreadFrames
frames_view a = record { frames = map frame_view a.frames.items; stop = a.stop }
