-- What is known of the registers of one frame.
use Rattle.std.specs.Prelude.{ℕ, ◌==◌, if◌then◌else◌, List, [], ◌∷◌, ◌++◌, slice_get, Option, None, Some, Result, Ok, Err, codes}
use Rattle.std.specs.List.{flat_map, range_with_len}
use Rattle.address_space.specs.Source.{ExecutableView}
use Rattle.build_replies.specs.Choosing.{Choice, choice_for}
use Rattle.image_replies.specs.Threads.{register_name}
use Rattle.unwind.specs.Registers.{known}
use Rattle.unwind.specs.Unwinding.{unwound}
use Rattle.unwind.specs.declared.frame.Frame.{Frame}
use Rattle.frame_replies.specs.Known.{known_words}
use Rattle.frame_replies.specs.Processes.{process_in, state_of, of_thread}

-- what is known of the register that a word of a thread's state holds: word 0 is pc, and word i is x_i
abbrev pub register_at : Frame → ℕ → Option ℕ
register_at f word = if word == 0 then Some f.pc else known f.registers word

-- `NAME h`, or `NAME ?` where it is not known
unfoldable pub register_line : Frame → ℕ → List ℕ
register_line f word = register_name word ++ (32 ∷ [] ++ (known_words (register_at f word) ++ 10 ∷ []))

-- a line for each of n words from one on
unfoldable pub register_lines_from : Frame → ℕ → ℕ → List ℕ
register_lines_from f word n = flat_map (register_line f) (range_with_len word n)

-- pc and x1 to x31, in the order of a thread's state
abbrev pub register_lines : Frame → List ℕ
register_lines f = register_lines_from f 0 32

-- the registers of a frame, if it is there
abbrev pub registers_of : Option Frame → Result (List ℕ) (List ℕ)
registers_of None = Err (codes "NoFrame")
registers_of (Some f) = Ok (register_lines f)

abbrev pub one_frame_answer : List ℕ → Choice → ℕ → List ℕ → Result (List ℕ) (List ℕ)
one_frame_answer b choice i desc = registers_of (slice_get (unwound (process_in b choice) desc) i)

-- `frame`: the registers of a frame of `unwind`, by its number
unfoldable pub frame_answer : List ℕ → List ExecutableView → ℕ → ℕ → Result (List ℕ) (List ℕ)
frame_answer b stored t i = of_thread (one_frame_answer b (choice_for b stored) i) (state_of b t)
