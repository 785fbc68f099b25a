-- The frames of a thread's stack, each with the function that it executes.
use Rattle.std.specs.Prelude.{ℕ, ◌-◌, ◌==◌, if◌then◌else◌, List, [], ◌∷◌, ◌++◌, slice_get, Option, None, Some, Result, Ok, Err, codes, decimal}
use Rattle.std.specs.List.{flat_map}
use Rattle.script_words.specs.Printing.{hexadecimal}
use Rattle.elf_view.specs.ViewWords.{notes_of}
use Rattle.elf_view.specs.declared.faults.Want.TheVariants.{Core}
use Rattle.core_notes.specs.Typed.{all_descs}
use Rattle.thread_regs.specs.Register.{register_in}
use Rattle.address_space.specs.Source.{Space, ExecutableView, word_at}
use Rattle.backtrace.specs.Chain.{Memory, chain, stop_of}
use Rattle.backtrace.specs.declared.frames.Frame.{Frame}
use Rattle.backtrace.specs.declared.frames.Stop.{Stop}
use Rattle.backtrace.specs.declared.frames.Stop.TheVariants.{NotRising, ZeroLink, Misaligned, Unreadable, Limit}
use Rattle.memory_replies.specs.Memory.{mapped_files, memory_of}
use Rattle.memory_replies.specs.Naming.{function_of, named_files}
use Rattle.memory_replies.specs.Places.{PlaceView, known_among, place_of, place_words}
use Rattle.memory_replies.specs.Words.{hex_word}

-- The address that is looked up for a frame: the pc of frame 0, which is about to be executed; of any other, whose pc is a
-- return address, the last of the call before it.
abbrev pub looked_up : Frame → Option ℕ
looked_up f = if f.index == 0 then Some f.pc else (if f.pc == 0 then None else Some (f.pc - 1))

-- frame 0 is followed by the return address that its register holds
abbrev pub return_words : ℕ → Frame → List ℕ
return_words ra f = if f.index == 0 then codes " ra " ++ hexadecimal ra else []

-- the function of a pc for which that address is looked up
abbrev pub Places : Type 0
Places = ℕ → Option ℕ → Option PlaceView

-- `I PC WHERE fp h`
unfoldable pub frame_line : Places → ℕ → Frame → List ℕ
frame_line places ra f =
    decimal f.index ++ (32 ∷ [] ++ (hex_word f.pc ++ (place_words (places f.pc (looked_up f))
    ++ (codes " fp " ++ (hexadecimal f.fp ++ (return_words ra f ++ 10 ∷ []))))))

abbrev pub stop_name : Stop → List ℕ
stop_name NotRising = codes "NotRising"
stop_name ZeroLink = codes "ZeroLink"
stop_name Misaligned = codes "Misaligned"
stop_name Unreadable = codes "Unreadable"
stop_name Limit = codes "Limit"

abbrev pub stop_line : Stop → List ℕ
stop_line stop = codes "stop " ++ (stop_name stop ++ 10 ∷ [])

-- the words of a core's memory
abbrev pub words_of : Space → Memory
words_of space a = word_at space a 8

-- the lines of the frames of the thread with these registers, and why they end: pc is register 32, the frame pointer x8,
-- the return address x1
unfoldable pub thread_lines : Space → Places → List ℕ → List ℕ
thread_lines space places desc =
    flat_map (frame_line places (register_in desc 1)) (chain (words_of space) (register_in desc 32) (register_in desc 8))
    ++ stop_line (stop_of (words_of space) (register_in desc 32) (register_in desc 8))

abbrev pub thread_answer : Space → Places → Option (List ℕ) → Result (List ℕ) (List ℕ)
thread_answer space places None = Err (codes "NoThread")
thread_answer space places (Some desc) = Ok (thread_lines space places desc)

-- the frames of a thread, by its number among the NT_PRSTATUS (1)
unfoldable pub frames_answer : List ℕ → List ExecutableView → Places → ℕ → Result (List ℕ) (List ℕ)
frames_answer b executables places t = thread_answer (memory_of b executables) places (slice_get (all_descs 1 (notes_of Core b)) t)

-- `bt`: with the functions that the executables' symbols name
abbrev pub bt_answer : List ℕ → List ExecutableView → ℕ → Result (List ℕ) (List ℕ)
bt_answer b executables t = frames_answer b executables (place_of (mapped_files b) (known_among executables)) t

-- the same, with those that the executables or else their debug files name
abbrev pub bt_with_debugs : List ℕ → List ExecutableView → List ExecutableView → ℕ → Result (List ℕ) (List ℕ)
bt_with_debugs b executables debugs t = frames_answer b executables (function_of (mapped_files b) (named_files executables debugs)) t
