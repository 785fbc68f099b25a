-- The frames of a thread's stack by call frame information, each with the function that it executes, and why they end.
use Rattle.std.specs.Prelude.{ℕ, ◌==◌, if◌then◌else◌, List, [], ◌∷◌, ◌++◌, Option, None, Some, Result, Ok, Err, codes, decimal}
use Rattle.address_space.specs.Source.{Space, ExecutableView}
use Rattle.build_replies.specs.Choosing.{Choice, choice_for}
use Rattle.call_frames.specs.FieldNames.{cfi_field_name}
use Rattle.unwind.specs.FieldNames.{row_field_name}
use Rattle.image_replies.specs.Lines.{numbered_lines}
use Rattle.memory_replies.specs.Naming.{NamedFile}
use Rattle.memory_replies.specs.Places.{place_words}
use Rattle.memory_replies.specs.Words.{hex_word}
use Rattle.unwind.specs.Code.{ProcessView}
use Rattle.unwind.specs.Unwinding.{unwound, stop_of}
use Rattle.unwind.specs.declared.faults.Stop.{Stop}
use Rattle.unwind.specs.declared.faults.Stop.TheVariants.{NoFile, NoExecutable, OtherBuild, NoAddress, NoEntry, Compressed, FaultyEntry, FaultyRow, Outermost, Expression, Undefined, NotRising, Unreadable, ZeroPc, Limit}
use Rattle.unwind.specs.declared.frame.Frame.{Frame}
use Rattle.frame_replies.specs.FrameValues.{FrameValue, ThreadFrames, frame_value}
use Rattle.frame_replies.specs.Known.{known_words}
use Rattle.frame_replies.specs.Processes.{named_among, process_in, state_of, of_thread}

-- WHERE of a frame: that a signal handler returns there, or a place in the function at the address that is looked up
abbrev pub place_text : FrameValue → List ℕ
place_text v = if v.signal then codes "signal" else place_words v.function

-- after frame 0 comes what is known of the return address that its register holds
abbrev pub return_words : ℕ → FrameValue → List ℕ
return_words i v = if i == 0 then codes " ra " ++ known_words v.returns else []

-- `I PC WHERE sp h`
unfoldable pub value_line : ℕ → FrameValue → List ℕ
value_line i v =
    decimal i ++ (32 ∷ [] ++ (hex_word v.pc ++ (place_text v
    ++ (codes " sp " ++ (known_words v.stack ++ (return_words i v ++ 10 ∷ []))))))

abbrev pub frame_line : Space → List NamedFile → ℕ → Frame → List ℕ
frame_line space named i f = value_line i (frame_value space named f)

-- the name of a reason
abbrev pub stop_name : Stop → List ℕ
stop_name NoFile = codes "NoFile"
stop_name NoExecutable = codes "NoExecutable"
stop_name OtherBuild = codes "OtherBuild"
stop_name NoAddress = codes "NoAddress"
stop_name NoEntry = codes "NoEntry"
stop_name Compressed = codes "Compressed"
stop_name (FaultyEntry fault) = codes "Faulty"
stop_name (FaultyRow fault) = codes "Faulty"
stop_name Outermost = codes "Outermost"
stop_name Expression = codes "Expression"
stop_name Undefined = codes "Undefined"
stop_name NotRising = codes "NotRising"
stop_name Unreadable = codes "Unreadable"
stop_name ZeroPc = codes "ZeroPc"
stop_name Limit = codes "Limit"

-- the field and the number of the entry of call frame information that is at fault
abbrev pub stop_fault : Stop → Option (List ℕ × ℕ)
stop_fault (FaultyEntry fault) = Some (cfi_field_name fault.«field», fault.index)
stop_fault (FaultyRow fault) = Some (row_field_name fault.«field», fault.index)
stop_fault _ = None

abbrev pub fault_words : Option (List ℕ × ℕ) → List ℕ
fault_words None = []
fault_words (Some x) = 32 ∷ [] ++ (x.0 ++ (32 ∷ [] ++ decimal x.1))

-- `NAME`, or `Faulty FIELD INDEX`
abbrev pub stop_words : Stop → List ℕ
stop_words stop = stop_name stop ++ fault_words (stop_fault stop)

abbrev pub stop_line : Stop → List ℕ
stop_line stop = codes "stop " ++ (stop_words stop ++ 10 ∷ [])

-- the lines of the frames of the thread with this state, from frame 0 on, and why they end
unfoldable pub unwound_lines : ProcessView → List NamedFile → List ℕ → List ℕ
unwound_lines p named desc = numbered_lines (frame_line p.space named) 0 (unwound p desc) ++ stop_line (stop_of p desc)

-- with what is chosen of the executables that are stored
abbrev pub unwound_answer : List ℕ → Choice → List ℕ → Result (List ℕ) (List ℕ)
unwound_answer b choice desc = Ok (unwound_lines (process_in b choice) (named_among choice) desc)

-- `unwind`: the frames of a thread, by its number among the NT_PRSTATUS, with the executables that are stored under the names of the mapped files
unfoldable pub unwind_answer : List ℕ → List ExecutableView → ℕ → Result (List ℕ) (List ℕ)
unwind_answer b stored t = of_thread (unwound_answer b (choice_for b stored)) (state_of b t)

-- the same from the values
abbrev pub printed : Option ThreadFrames → Result (List ℕ) (List ℕ)
printed None = Err (codes "NoThread")
printed (Some v) = Ok (numbered_lines value_line 0 v.frames ++ stop_line v.stop)
