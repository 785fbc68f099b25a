-- The threads of a core and their frames.
use Rattle.std.specs.Prelude.{ℕ, ◌-◌, ◌||◌, nat_lt, min, take, if◌then◌else◌, is_some, List, [], ◌∷◌, ◌++◌, length, find, Option, None, Some, Result, Ok, Err, codes, decimal}
use Rattle.std.specs.Fmt.{signed_decimal}
use Rattle.core_notes.specs.Descriptor.{pr_reg, status_pid}
use Rattle.core_notes.specs.FileList.{FileView, is_mapping}
use Rattle.core_notes.specs.Typed.{all_descs, first_desc}
use Rattle.crash_signatures.specs.Frames.{place_text as place_in_file}
use Rattle.elf_view.specs.NoteList.{NoteView}
use Rattle.frame_replies.specs.FrameLines.{stop_line}
use Rattle.frame_replies.specs.FrameSources.{line_at}
use Rattle.frame_replies.specs.SourceWords.{lines_view}
use Rattle.frame_replies.specs.declared.values.FrameAnswer.{FrameAnswer}
use Rattle.frame_replies.specs.declared.values.FramesAnswer.{FramesAnswer}
use Rattle.image_replies.specs.Lines.{numbered_lines}
use Rattle.image_replies.specs.declared.core_image.CoreFault.{CoreFault}
use Rattle.frame_replies.specs.Line.{SourceView}
use Rattle.memory_replies.specs.declared.named.Location.{Location}
use Rattle.script_words.specs.Printing.{hexadecimal}
use Rattle.case_tables.specs.Table.{left_text}
use Rattle.case_screens.specs.Core.{files_in}
use Rattle.case_screens.specs.Reasons.{core_reason, no_thread}
use Rattle.case_screens.specs.Texts.{margin, label_at, name_text, refused_line, rest_after}

-- the first file that is mapped at an address
abbrev pub file_at : List FileView → Option ℕ → Option FileView
file_at files None = None
file_at files (Some a) = find (is_mapping a) files

-- the file that is mapped at a frame
abbrev pub frame_file : List FileView → FrameAnswer → Option FileView
frame_file files f = file_at files f.looked_up

-- the file's last component, and the place of a pc in it
abbrev pub file_place : FileView → ℕ → List ℕ
file_place m pc = take 256 (place_in_file (record { path = m.name; start = m.start; offset = m.offset }) pc)

-- a place in a file, if that is known
abbrev pub unnamed_text : Option FileView → ℕ → List ℕ
unnamed_text None pc = codes "?"
unnamed_text (Some m) pc = name_text (file_place m pc)

-- a place in a function, if it is known, else in a file
abbrev pub function_text : Option Location → Option FileView → ℕ → List ℕ
function_text None file pc = unnamed_text file pc
function_text (Some l) file pc = name_text l.name.now ++ (codes "+" ++ hexadecimal l.distance)

-- the place of a frame: that a signal handler returns there, or a place in a function or a file
abbrev pub place_text : FrameAnswer → Option FileView → List ℕ
place_text f file = if f.signal then codes "signal" else function_text f.function file f.pc

-- the place of a frame, and its file, if that is known
abbrev pub where_text : FrameAnswer → Option FileView → List ℕ
where_text f None = place_text f None
where_text f (Some m) = left_text 24 (place_text f (Some m)) ++ name_text m.name

-- the source line of a frame, if it is known
abbrev pub source_text : Option SourceView → List ℕ
source_text None = []
source_text (Some s) = codes "  " ++ (name_text s.file ++ (codes ":" ++ decimal s.line))

-- with the source lines of the first frames
abbrev pub frame_row : List FileView → List (Option SourceView) → ℕ → FrameAnswer → List ℕ
frame_row files lines k f =
    label_at (codes "frames    ") k ++ (left_text 2 (decimal k) ++ (left_text 14 (hexadecimal f.pc) ++ (where_text f (frame_file files f) ++ (source_text (line_at lines k) ++ 10 ∷ []))))

-- a line that says that there are so many more
abbrev pub rest_text : ℕ → List ℕ
rest_text n = margin ++ (codes "and " ++ (decimal n ++ (codes " more" ++ 10 ∷ [])))

-- how many frames are not shown, if any are
abbrev pub more_text : ℕ → List ℕ
more_text n = if nat_lt 20 n then rest_text (n - 20) else []

-- at most 20 frames, and why they end
abbrev pub known_frames : List FileView → FramesAnswer → List ℕ
known_frames files a =
    numbered_lines (frame_row files (lines_view a)) 0 (take 20 a.frames.items) ++ (more_text (length a.frames.items) ++ (margin ++ stop_line a.stop))

-- the core has no such thread
abbrev pub frames_text : List FileView → Option FramesAnswer → List ℕ
frames_text files (Some a) = known_frames files a
frames_text files None = refused_line (codes "frames    ") no_thread

-- the function and the file of a thread's pc, as far as they are known
abbrev pub in_function : FrameAnswer → List ℕ
in_function f = if f.signal || is_some f.function then codes " in " ++ place_text f None else []

abbrev pub in_file : Option FileView → List ℕ
in_file None = []
in_file (Some m) = codes " (" ++ (name_text m.name ++ codes ")")

abbrev pub first_place : List FileView → List FrameAnswer → List ℕ
first_place files [] = []
first_place files (f ∷ fs) = in_function f ++ in_file (frame_file files f)

abbrev pub pc_place : List FileView → Option FramesAnswer → List ℕ
pc_place files None = []
pc_place files (Some a) = first_place files a.frames.items

-- a thread, by its NT_PRSTATUS, and its frames
abbrev pub thread_text : List FileView → ℕ → List ℕ → Option FramesAnswer → List ℕ
thread_text files count d frames =
    codes "thread    " ++ (signed_decimal (status_pid d) ++ (codes " (" ++ (decimal count ++ (codes " in all), pc " ++ (hexadecimal (pr_reg d 0)
    ++ (pc_place files frames ++ (10 ∷ [] ++ frames_text files frames)))))))

-- as many threads as were unwound
abbrev pub each_thread : List FileView → ℕ → List (List ℕ) → List (Option FramesAnswer) → List ℕ
each_thread files count descs [] = []
each_thread files count [] (frames ∷ unwound) = []
each_thread files count (d ∷ descs) (frames ∷ unwound) = thread_text files count d frames ++ each_thread files count descs unwound

-- how many threads there are. It stays at the highest u64 if there are more.
abbrev pub thread_count : List (List ℕ) → ℕ
thread_count descs = min (length descs) 18446744073709551615

-- how many threads are not shown, if more than one is
abbrev pub threads_rest : ℕ → ℕ → List ℕ
threads_rest count unwound = if nat_lt 1 unwound then rest_after (codes "thread    ") (min unwound 256) count else []

-- the threads that are shown, of a core with these notes: at most 256
abbrev pub shown_threads : List NoteView → List (Option FramesAnswer) → List ℕ
shown_threads notes [] = codes "thread    the core has no thread" ++ 10 ∷ []
shown_threads notes (frames ∷ unwound) =
    each_thread (files_in (first_desc 0x46494c45 notes)) (thread_count (all_descs 1 notes)) (all_descs 1 notes) (take 256 (frames ∷ unwound))
    ++ threads_rest (thread_count (all_descs 1 notes)) (length (frames ∷ unwound))

abbrev pub threads_text : Result (List NoteView) CoreFault → List (Option FramesAnswer) → List ℕ
threads_text (Ok notes) unwound = shown_threads notes unwound
threads_text (Err fault) unwound = refused_line (codes "thread    ") (core_reason fault) ++ refused_line (codes "frames    ") (core_reason fault)
