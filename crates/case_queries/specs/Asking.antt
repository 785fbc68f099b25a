-- The questions of lines about a core that is read piece by piece.
use Rattle.std.specs.Prelude.{⊤, ℕ, List, [], Result}
use Rattle.address_space.specs.Source.{ExecutableView}
use Rattle.build_replies.specs.Builds.{NamedId, builds_answer}
use Rattle.frame_replies.specs.FrameSources.{shown_answer}
use Rattle.frame_replies.specs.FrameRegisters.{frame_answer}
use Rattle.frame_replies.specs.declared.lines.Shown.TheVariants as shows
use Rattle.memory_replies.specs.Find.{find_answer}
use Rattle.memory_replies.specs.Texts.{strings_answer}
use Rattle.journal_layout.specs.Case.{Case}
use Rattle.script_lines.specs.declared.query.BuildQuery.{BuildQuery}
use Rattle.script_lines.specs.declared.query.BuildQuery.TheVariants as builds
use Rattle.script_lines.specs.Queries.{QuerySaid, ask_builds, ask_find, ask_frame, ask_lines, ask_strings, ask_unwind}
use Rattle.windowed_search.specs.ScanWords.{Aim, IsAim, aim_of, for_bytes, for_texts}
use Rattle.case_queries.specs.Collecting.{Wanted, debugs_by}
use Rattle.case_queries.specs.Inspecting.{asking_by}
use Rattle.case_queries.specs.declared.asked.Asked.{Asked}
use Rattle.case_queries.specs.declared.asked.Asked.TheVariants as asked
use Rattle.case_queries.specs.declared.asked.FramesAsked.{FramesAsked}
use Rattle.case_queries.specs.declared.asked.FramesAsked.TheVariants.{Shown, Registers}
use Rattle.case_queries.specs.declared.asked.AskedFiles.{AskedFiles}
use Rattle.case_queries.specs.declared.asked.AskedFiles.TheVariants as files

-- a search through all of its memory; a question about the frames of a thread; the
-- builds of its mapped files, for which the executables of these cases are read
pub data Asking : Type 0 where
  for_aim : Aim → Asking
  for_frames : ℕ → FramesAsked → Asking
  for_builds : BuildQuery → List Wanted → Asking

abbrev pub files_asking : AskedFiles → List Wanted → Asking
files_asking (files.Frames thread asked) cases = for_frames thread asked
files_asking (files.Builds query) cases = for_builds query cases

-- the debug files that the line reads after these executables, for these mapped files
abbrev pub debugs_asked : AskedFiles → List NamedId → List ExecutableView → List Case → List Wanted
debugs_asked (files.Frames thread asked) told xs cases = debugs_by told xs cases
debugs_asked (files.Builds builds.Used) told xs cases = debugs_by told xs cases
debugs_asked (files.Builds q) told xs cases = []

-- before the cases are known: the line is the same
abbrev pub files_asked : AskedFiles → Asking
files_asked a = files_asking a []

abbrev pub asking_of : Asked → Asking
asking_of (asked.Sought s) = for_aim (aim_of s)
asking_of (asked.Files a) = files_asked a

-- every search is for something that is not empty
abbrev pub IsAsking : Asking → Type 0
IsAsking (for_aim aim) = IsAim aim
IsAsking (for_frames thread asked) = ⊤
IsAsking (for_builds query cases) = ⊤

-- the line that asks the question, and its answer
abbrev pub aim_query : Aim → QuerySaid
aim_query (for_bytes needle) = ask_find needle
aim_query (for_texts least) = ask_strings least

abbrev pub frames_query : ℕ → FramesAsked → QuerySaid
frames_query thread (Shown shows.Stack) = ask_unwind thread
frames_query thread (Shown shows.Source) = ask_lines thread
frames_query thread (Registers frame) = ask_frame thread frame

abbrev pub asking_query : Asking → QuerySaid
asking_query (for_aim aim) = aim_query aim
asking_query (for_frames thread asked) = frames_query thread asked
asking_query (for_builds query cases) = ask_builds query

abbrev pub aim_answer : Aim → List ℕ → List ExecutableView → Result (List ℕ) (List ℕ)
aim_answer (for_bytes needle) image xs = find_answer image xs needle
aim_answer (for_texts least) image xs = strings_answer image xs least

abbrev pub frames_answer : List ℕ → List ExecutableView → ℕ → FramesAsked → Result (List ℕ) (List ℕ)
frames_answer image xs thread (Shown shown) = shown_answer shown image xs thread
frames_answer image xs thread (Registers frame) = frame_answer image xs thread frame

abbrev pub asking_answer : Asking → List ℕ → List ExecutableView → Result (List ℕ) (List ℕ)
asking_answer (for_aim aim) image xs = aim_answer aim image xs
asking_answer (for_frames thread asked) image xs = frames_answer image xs thread asked
asking_answer (for_builds query cases) image xs = builds_answer (asking_by query cases) image xs
