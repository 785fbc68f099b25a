-- The source lines of a thread's frames: each is that of the address that is looked up for the frame.
use Rattle.std.specs.Prelude.{ℕ, if◌then◌else◌, List, [], ◌∷◌, ◌++◌, find, map, slice_get, Option, None, Some, Result, Ok, Err, codes, decimal}
use Rattle.std.specs.Option.{option_and_then}
use Rattle.std.specs.Result.{result_ok}
use Rattle.address_space.specs.Source.{ExecutableView, SpotView, entry_at, spot_of}
use Rattle.build_replies.specs.Choosing.{choice_for}
use Rattle.core_notes.specs.FileList.{FileView}
use Rattle.image_replies.specs.Lines.{numbered_lines}
use Rattle.frame_replies.specs.Line.{SourceView, source_at, source_place}
use Rattle.memory_replies.specs.Naming.{NamedFile, has_path}
use Rattle.memory_replies.specs.Words.{hex_word}
use Rattle.symbols.specs.Offsets.{address_of}
use Rattle.frame_replies.specs.FrameLines.{place_text, stop_line, unwind_answer, value_line}
use Rattle.frame_replies.specs.FrameValues.{FrameValue, ThreadFrames, frames_of}
use Rattle.frame_replies.specs.Processes.{named_among, process_in}
use Rattle.frame_replies.specs.SourceTables.{tables_of}
use Rattle.frame_replies.specs.declared.lines.Shown.{Shown}
use Rattle.frame_replies.specs.declared.lines.Shown.TheVariants.{Stack, Source}

-- The line of the code at an offset of the executable, whose own headers say which address that is.
unfoldable pub source_in : ℕ → NamedFile → Option SourceView
source_in offset n = option_and_then (λ v. option_and_then (λ t. result_ok (source_at t v)) (tables_of n)) (address_of n.file.image offset)

-- at a place of a mapped file, by the first executable of that name
abbrev pub source_at_spot : List NamedFile → SpotView → Option SourceView
source_at_spot named spot = option_and_then (source_in spot.offset) (find (has_path spot.name) named)

-- at an address of the process, if one is looked up
unfoldable pub source_of_address : List FileView → List NamedFile → Option ℕ → Option SourceView
source_of_address files named address = option_and_then (λ a. option_and_then (source_at_spot named) (spot_of a (entry_at files a))) address

-- the code to which a signal handler returns is the kernel's
unfoldable pub frame_source : List FileView → List NamedFile → FrameValue → Option SourceView
frame_source files named v = if v.signal then None else source_of_address files named v.looked_up

-- of each of a thread's frames; none, if the thread is not there
abbrev pub sources_with : List FileView → List NamedFile → Option ThreadFrames → List (Option SourceView)
sources_with files named None = []
sources_with files named (Some v) = map (frame_source files named) v.frames

-- The source lines of the frames of a thread, by its number among the NT_PRSTATUS, from frame 0 on: those that `lines` shows.
unfoldable pub sources_of : List ℕ → List ExecutableView → ℕ → List (Option SourceView)
sources_of b stored t = sources_with (process_in b (choice_for b stored)).space.files (named_among (choice_for b stored)) (frames_of b stored t)

-- the line of a frame by its number, if it is known and among these
abbrev pub known_line : Option (Option SourceView) → Option SourceView
known_line None = None
known_line (Some line) = line

abbrev pub line_at : List (Option SourceView) → ℕ → Option SourceView
line_at lines i = known_line (slice_get lines i)

-- `FILE LINE`, or `? ?` if it is not known
abbrev pub source_words : Option SourceView → List ℕ
source_words None = codes "? ?"
source_words (Some s) = source_place s

-- `I PC WHERE FILE LINE`
unfoldable pub source_line : ℕ → FrameValue → Option SourceView → List ℕ
source_line i v line =
    decimal i ++ (32 ∷ [] ++ (hex_word v.pc ++ (place_text v ++ (32 ∷ [] ++ (source_words line ++ 10 ∷ [])))))

-- the line of a frame, by what it shows beside the place
abbrev pub shown_line : Shown → List FileView → List NamedFile → ℕ → FrameValue → List ℕ
shown_line Stack files named i v = value_line i v
shown_line Source files named i v = source_line i v (frame_source files named v)

-- from the values
abbrev pub printed_sources : List FileView → List NamedFile → Option ThreadFrames → Result (List ℕ) (List ℕ)
printed_sources files named None = Err (codes "NoThread")
printed_sources files named (Some v) = Ok (numbered_lines (shown_line Source files named) 0 v.frames ++ stop_line v.stop)

-- `lines`: the frames of `unwind`, each with its source line
unfoldable pub lines_answer : List ℕ → List ExecutableView → ℕ → Result (List ℕ) (List ℕ)
lines_answer b stored t = printed_sources (process_in b (choice_for b stored)).space.files (named_among (choice_for b stored)) (frames_of b stored t)

abbrev pub shown_answer : Shown → List ℕ → List ExecutableView → ℕ → Result (List ℕ) (List ℕ)
shown_answer Stack b stored t = unwind_answer b stored t
shown_answer Source b stored t = lines_answer b stored t
