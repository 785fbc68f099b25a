-- The answer to a line that asks an image, and the state in which the line leaves the archive.
use Rattle.std.specs.Prelude.{◌≡◌, ◌⊎◌, ℕ, List, [], Bool, true, false, find, Option, None, Some, Result, Ok, Err, codes}
use Rattle.std.specs.Option.{option_map}
use Rattle.address_space.specs.Source.{ExecutableView}
use Rattle.disk_model.specs.declared.disk.Disk as disk
use Rattle.elf_view.specs.declared.faults.Want.{Want}
use Rattle.elf_view.specs.declared.faults.Want.TheVariants as want
use Rattle.build_ids.specs.BuildId.{build_id_of}
use Rattle.build_replies.specs.Builds.{BuildsAsking, builds_answer, compares, uses, wants}
use Rattle.build_replies.specs.ByBuild.{is_debug_of}
use Rattle.build_replies.specs.Choosing.{debugs_of, told_files, used_of}
use Rattle.frame_replies.specs.FrameLines.{unwind_answer}
use Rattle.frame_replies.specs.FrameSources.{lines_answer}
use Rattle.frame_replies.specs.FrameRegisters.{frame_answer}
use Rattle.image_replies.specs.Header.{header_answer}
use Rattle.image_replies.specs.Notes.{notes_answer}
use Rattle.image_replies.specs.Threads.{threads_answer, regs_answer}
use Rattle.image_replies.specs.Process.{process_answer}
use Rattle.image_replies.specs.Signal.{signal_answer}
use Rattle.image_replies.specs.Auxv.{auxv_answer}
use Rattle.image_replies.specs.Files.{files_answer}
use Rattle.image_replies.specs.Core.{core_fault_of}
use Rattle.image_replies.specs.Lines.{in_core}
use Rattle.image_replies.specs.Reasons.{core_reason}
use Rattle.image_replies.specs.declared.core_image.CoreFault.{CoreFault}
use Rattle.intake.specs.Parts.{Parts, state_of}
use Rattle.intake.specs.State.{ArchiveState}
use Rattle.intake.specs.declared.faults.ArchiveFault.{ArchiveFault}
use Rattle.journal_layout.specs.Soundness.{case_numbered}
use Rattle.journal_layout.specs.Case.{Case}
use Rattle.journal_layout.specs.declared.entry.Kind.{Kind}
use Rattle.journal_layout.specs.declared.entry.Kind.TheVariants.{Core, Exec}
use Rattle.frame_replies.specs.Line.{line_answer}
use Rattle.memory_replies.specs.Answers.{Answers, memory_reply}
use Rattle.memory_replies.specs.At.{at_answer, at_with_debugs}
use Rattle.memory_replies.specs.Backtrace.{bt_answer, bt_with_debugs}
use Rattle.memory_replies.specs.Dump.{dump_answer}
use Rattle.memory_replies.specs.Find.{find_answer}
use Rattle.memory_replies.specs.Maps.{maps_answer}
use Rattle.memory_replies.specs.Texts.{strings_answer}
use Rattle.memory_replies.specs.Symbol.{symbol_answer, executable_fault}
use Rattle.memory_replies.specs.SymbolDebug.{symbol_with_debug}
use Rattle.script_lines.specs.declared.query.BuildQuery.{BuildQuery}
use Rattle.script_lines.specs.declared.query.BuildQuery.TheVariants as builds
use Rattle.script_lines.specs.Queries.{QuerySaid, ask_header, ask_notes, ask_threads, ask_registers, ask_process, ask_signal, ask_auxiliary_vector, ask_files, ask_maps, ask_dump, ask_at, ask_find, ask_strings, ask_backtrace, ask_unwind, ask_lines, ask_frame, ask_builds, ask_symbol, ask_by_build, ask_symbol_by_build, ask_line}
use Rattle.script_streams.specs.Replies.{no_reply, reply_of}
use Rattle.case_queries.specs.Collecting.{Gathered, GathersFor, Wanted}
use Rattle.archive_replies.specs.Reasons.{reason_of}
use Rattle.case_queries.specs.Seeing.{LooksAt}

-- the kind of an executable; the line asks no core
abbrev pub executable_kind : Kind → Result Kind (List ℕ)
executable_kind Core = Err (codes "NotExec")
executable_kind Exec = Ok Exec

-- the kind of a case, if the line may ask one of that kind: a header is asked
-- of both, a symbol and a source line of executables, all else of cores
abbrev pub kind_for : QuerySaid → Kind → Result Kind (List ℕ)
kind_for ask_header kind = Ok kind
kind_for (ask_symbol address) kind = executable_kind kind
kind_for (ask_symbol_by_build address) kind = executable_kind kind
kind_for (ask_line address) kind = executable_kind kind
kind_for q Core = Ok Core
kind_for q Exec = Err (codes "NotCore")

-- the kind of image that a case is read as
abbrev pub want_of : Kind → Want
want_of Core = want.Core
want_of Exec = want.Exec

-- the question of a line over builds, if the executables of these cases are read
abbrev pub asking_by : BuildQuery → List Wanted → BuildsAsking
asking_by builds.Compared cases = compares
asking_by builds.Used cases = uses cases
asking_by builds.Wanted cases = wants

-- of the executables that are read for a core, those that are used for its mapped files, each under the name of its file
abbrev pub used_for : List ℕ → List ExecutableView → List ExecutableView
used_for b xs = used_of xs (told_files b)

-- and the debug files of these
abbrev pub debugs_used_for : List ℕ → List ExecutableView → List ExecutableView
debugs_used_for b xs = debugs_of xs (told_files b)

-- Executables are chosen by build: then `at` and `bt` name functions by the debug files of these too. Any other line is answered as it is
-- with these.
abbrev pub by_debugs : QuerySaid → List ℕ → List ExecutableView → List ExecutableView → Result (List ℕ) (List ℕ) → Result (List ℕ) (List ℕ)
by_debugs (ask_at address) b xs debugs answer = at_with_debugs b xs debugs address
by_debugs (ask_backtrace thread) b xs debugs answer = bt_with_debugs b xs debugs thread
by_debugs q b xs debugs answer = answer

-- the debug file of the build of that ID, among the files that are stored under its name
abbrev pub debug_of_build : Option (List ℕ) → List ExecutableView → Option ExecutableView
debug_of_build None xs = None
debug_of_build (Some id) xs = find (λ (x : ExecutableView). is_debug_of id x.image) xs

-- that of an executable
abbrev pub debug_image : List ℕ → List ExecutableView → Option (List ℕ)
debug_image b xs = option_map (λ (x : ExecutableView). x.image) (debug_of_build (build_id_of b) xs)

-- the answer to a query, by the bytes of an image and of the executables of these cases, which are read for it; or why nothing is shown
abbrev pub answer_of : Kind → QuerySaid → List ℕ → List Wanted → List ExecutableView → Result (List ℕ) (List ℕ)
answer_of kind ask_header b cases xs = header_answer (want_of kind) b
answer_of kind ask_notes b cases xs = notes_answer b
answer_of kind ask_threads b cases xs = threads_answer b
answer_of kind (ask_registers thread) b cases xs = regs_answer b thread
answer_of kind ask_process b cases xs = process_answer b
answer_of kind ask_signal b cases xs = signal_answer b
answer_of kind ask_auxiliary_vector b cases xs = auxv_answer b
answer_of kind ask_files b cases xs = files_answer b
answer_of kind ask_maps b cases xs = in_core b (λ notes. maps_answer b)
answer_of kind (ask_dump first length) b cases xs = dump_answer b xs first length
answer_of kind (ask_at address) b cases xs = at_answer b xs address
answer_of kind (ask_find needle) b cases xs = find_answer b xs needle
answer_of kind (ask_strings least) b cases xs = strings_answer b xs least
answer_of kind (ask_backtrace thread) b cases xs = bt_answer b xs thread
answer_of kind (ask_unwind thread) b cases xs = unwind_answer b xs thread
answer_of kind (ask_lines thread) b cases xs = lines_answer b xs thread
answer_of kind (ask_frame thread frame) b cases xs = frame_answer b xs thread frame
answer_of kind (ask_builds query) b cases xs = builds_answer (asking_by query cases) b xs
answer_of kind (ask_symbol address) b cases xs = symbol_answer b address
answer_of kind (ask_by_build query) b cases xs = by_debugs query b (used_for b xs) (debugs_used_for b xs) (answer_of kind query b cases (used_for b xs))
answer_of kind (ask_symbol_by_build address) b cases xs = symbol_with_debug b (debug_image b xs) address
answer_of kind (ask_line address) b cases xs = line_answer b (debug_image b xs) address

-- the lines that read executables beside the image that they ask
abbrev pub reads_executables : QuerySaid → Bool
reads_executables (ask_dump first length) = true
reads_executables (ask_at address) = true
reads_executables (ask_find needle) = true
reads_executables (ask_strings least) = true
reads_executables (ask_backtrace thread) = true
reads_executables (ask_unwind thread) = true
reads_executables (ask_lines thread) = true
reads_executables (ask_frame thread frame) = true
reads_executables (ask_builds query) = true
reads_executables (ask_by_build query) = true
reads_executables (ask_symbol_by_build address) = true
reads_executables (ask_line address) = true
reads_executables _ = false

-- The fault of the core for which the line is refused before the executables
-- are read. A line about an address of an executable asks no core.
abbrev pub core_fault_for : QuerySaid → List ℕ → Option CoreFault
core_fault_for (ask_symbol_by_build address) b = None
core_fault_for (ask_line address) b = None
core_fault_for q b = core_fault_of b

-- The reply if no executable is read: that of the answer. The table of an executable's symbols takes memory.
abbrev pub Told : Kind → QuerySaid → List ℕ → List ℕ → Type 0
Told kind (ask_symbol address) b reply = (reply ≡ reply_of (symbol_answer b address)) ⊎ ((reply ≡ memory_reply) × (executable_fault b ≡ None))
Told kind q b reply = reply ≡ reply_of (answer_of kind q b [] [])

-- The line may ask the case of this number, as one of this kind: the archive is not stopped and has the case.
pub record MayAsk (s : ArchiveState) (seq : ℕ) (q : QuerySaid) (kind : Kind) : Type 0 where
  pub runs : s.stopped ≡ false
  pub entry : Case
  pub has : case_numbered seq s.cases ≡ Some entry
  pub asked : kind_for q entry.origin.kind ≡ Ok kind

-- A line that asks the image of a case, its reply, and the archive after it:
-- the reasons why nothing is shown, in their order, and then the answer.
pub data Inspects {D : Type 0} (g : disk.Ghosts D) (old : Parts D) (seq : ℕ) (q : QuerySaid) (reply : List ℕ) (new : Parts D) : Type 0 where
  -- the archive is stopped
  archive_stopped : (state_of old).stopped ≡ true → reply ≡ no_reply (codes "Stopped") → new ≡ old → Inspects g old seq q reply new
  -- it has no such case
  no_such_case : (state_of old).stopped ≡ false → case_numbered seq (state_of old).cases ≡ None → reply ≡ no_reply (codes "NoCase") → new ≡ old → Inspects g old seq q reply new
  -- the line may not ask a case of its kind
  other_kind : (state_of old).stopped ≡ false → (c : Case) → case_numbered seq (state_of old).cases ≡ Some c → (reason : List ℕ) → kind_for q c.origin.kind ≡ Err reason
      → reply ≡ no_reply reason → new ≡ old → Inspects g old seq q reply new
  -- its image can't be read
  image_unread : (kind : Kind) → MayAsk (state_of old) seq q kind → (f : ArchiveFault) → LooksAt g old seq (Err f) new → reply ≡ no_reply (reason_of f) → Inspects g old seq q reply new
  -- executables are wanted, and the core has a fault
  core_faulty : (kind : Kind) → MayAsk (state_of old) seq q kind → (image : List ℕ) → LooksAt g old seq (Ok image) new
      → reads_executables q ≡ true → (fault : CoreFault) → core_fault_for q image ≡ Some fault → reply ≡ no_reply (core_reason fault) → Inspects g old seq q reply new
  -- one of them can't be read
  executable_unread : (kind : Kind) → MayAsk (state_of old) seq q kind → (image : List ℕ) → (mid : Parts D) → LooksAt g old seq (Ok image) mid
      → reads_executables q ≡ true → core_fault_for q image ≡ None → (f : ArchiveFault) → GathersFor g mid q image (Err f) new → reply ≡ no_reply (reason_of f)
      → Inspects g old seq q reply new
  -- the answer is shown, of the image, of the executables and of their debug files
  shown_with_executables : (kind : Kind) → MayAsk (state_of old) seq q kind → (image : List ℕ) → (mid : Parts D) → LooksAt g old seq (Ok image) mid
      → reads_executables q ≡ true → core_fault_for q image ≡ None → (read : Gathered) → GathersFor g mid q image (Ok read) new
      → Answers (answer_of kind q image read.cases read.images) reply → Inspects g old seq q reply new
  -- the answer is shown, of the image alone
  shown : (kind : Kind) → MayAsk (state_of old) seq q kind → (image : List ℕ) → LooksAt g old seq (Ok image) new → reads_executables q ≡ false → Told kind q image reply
      → Inspects g old seq q reply new
