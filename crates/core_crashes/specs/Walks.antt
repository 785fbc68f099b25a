-- The words of the frames of a thread.
use Rattle.std.specs.Prelude.{ℕ, ◌||◌, Bool, true, false, nat_le, List, length, map, take, Option}
use Rattle.std.specs.Option.{option_map}
use Rattle.crash_signatures.specs.Frames.{FrameSaid, word_of}
use Rattle.crash_signatures.specs.Words.{WordSaid}
use Rattle.frame_replies.specs.FrameValues.{FrameValue, ThreadFrames}
use Rattle.memory_replies.specs.Places.{PlaceView}
use Rattle.memory_replies.specs.declared.named.Location.{Location}
use Rattle.unwind.specs.declared.faults.Stop.{Stop}
use Rattle.unwind.specs.declared.faults.Stop.TheVariants.{Outermost, ZeroPc, Limit}
use Rattle.core_crashes.specs.Notes.{file_at, has_files, is_in_vdso, vdso_of}

-- the name of a function
abbrev pub name_of : Option Location → Option (List ℕ)
name_of function = option_map (λ (place : Location). place.name.now) function

-- The facts about a frame that a core gives. The file and the vdso are those at the address that is looked up.
abbrev pub frame_facts : List ℕ → FrameValue → FrameSaid
frame_facts b v = record {
  pc = v.pc;
  is_signal = v.signal;
  function = option_map (λ (place : PlaceView). place.name) v.function;
  file = file_at b v.looked_up;
  is_vdso = is_in_vdso (vdso_of b) v.looked_up;
  has_files = has_files b;
}

abbrev pub word_in : List ℕ → FrameValue → WordSaid
word_in b v = word_of (frame_facts b v)

-- those of the first 96 frames
abbrev pub words_of : List ℕ → ThreadFrames → List WordSaid
words_of b frames = map (word_in b) (take 96 frames.frames)

-- the walk ended where the thread began, or at the end of its memory
abbrev pub is_end : Stop → Bool
is_end Outermost = true
is_end ZeroPc = true
is_end Limit = true
is_end _ = false

-- or after as many frames as have words
abbrev pub is_whole : ThreadFrames → Bool
is_whole frames = nat_le 96 (length frames.frames) || is_end frames.stop
