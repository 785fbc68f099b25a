-- The signal that was being handled: its frame begins with its siginfo, and that with its number (Linux, arch/riscv: rt_sigframe;
-- sigaction(2)).
use Rattle.std.specs.Prelude.{ℕ, ◌==◌, ◌%◌, ◌^◌, if◌then◌else◌, Bool, List, find, take, Option, None, Some}
use Rattle.std.specs.Option.{option_and_then}
use Rattle.address_space.specs.Source.{Space, word_at}
use Rattle.case_tables.specs.Cells.{signal_text}
use Rattle.crash_signatures.specs.Signature.{HandledSaid}
use Rattle.frame_replies.specs.FrameValues.{FrameValue, ThreadFrames}

abbrev pub is_of_signal : FrameValue → Bool
is_of_signal v = v.signal

-- the stack pointer of the first frame of a signal
abbrev pub stack_among : List FrameValue → Option ℕ
stack_among vs = option_and_then (λ (v : FrameValue). v.stack) (find is_of_signal vs)

-- among the first 16 frames
abbrev pub signal_stack : ThreadFrames → Option ℕ
signal_stack frames = stack_among (take 16 frames.frames)

-- a number of four bytes; 0 is no signal
abbrev pub number_by : ℕ → Option ℕ
number_by n = if n == 0 then None else Some n

abbrev pub number_in : ℕ → Option ℕ
number_in word = number_by (word % 2 ^ 32)

-- the signal whose frame begins there, if the memory has its first eight bytes
abbrev pub handled_at : Space → ℕ → Option ℕ
handled_at space s = option_and_then number_in (word_at space s 8)

-- the signal of the first of its frames, if there is one and its number can be read
abbrev pub handled_in : Space → ThreadFrames → Option ℕ
handled_in space frames = option_and_then (handled_at space) (signal_stack frames)

-- a signal with the name that a list shows
abbrev pub handled_said : ℕ → HandledSaid
handled_said n = record { number = n; name = signal_text n }
