-- One screen of a case: the facts of its image, the lines that are asked of it, and the text that shows both.
use Rattle.std.specs.Prelude.{◌≡◌, ◌++◌, ℕ, false, if◌then◌else◌, List, length, min, Option, Result, Ok, Err, IfOk, Vec}
use Rattle.std.specs.Borrow.{Bor}
use Rattle.std.specs.Global.{Global}
use Rattle.std.specs.Option.{option_map}
use Rattle.address_space.specs.Source.{ExecutableView}
use Rattle.archive_files.specs.declared.collected.Collected.{Collected}
use Rattle.archive_files.specs.declared.failures.Refusal.{Refusal}
use Rattle.archive_files.specs.declared.failures.Refusal.TheVariants.{Open}
use Rattle.build_replies.specs.Builds.{NamedId, told_of, told_or_none}
use Rattle.build_replies.specs.declared.answers.BuildAnswer.{BuildAnswer}
use Rattle.case_queries.specs.Collecting.{CollectsAll, debugs_by, wanted_by}
use Rattle.case_queries.specs.Facts.{SaysFacts}
use Rattle.case_queries.specs.Seeing.{SeesImage}
use Rattle.case_queries.specs.declared.facts.CoreFacts.{CoreFacts}
use Rattle.case_screens.specs.Core.{header_in, notes_in}
use Rattle.case_screens.specs.Frames.{thread_count}
use Rattle.case_screens.specs.Screen.{info_answer}
use Rattle.case_tables.specs.declared.zones.Zone.{Zone}
use Rattle.case_screens.specs.declared.answer.CaseAnswers.{CaseAnswers}
use Rattle.case_screens.specs.declared.answer.CaseAnswers.TheVariants.{Core, Exec}
use Rattle.case_screens.specs.declared.answer.CoreAnswers.{CoreAnswers}
use Rattle.core_notes.specs.Typed.{all_descs}
use Rattle.disk_model.specs.declared.disk.Disk as disk
use Rattle.elf_view.specs.NoteList.{NoteView}
use Rattle.image_replies.specs.CoreWords.{core_bytes}
use Rattle.image_replies.specs.declared.core_image.CoreFault.{CoreFault}
use Rattle.image_replies.specs.declared.core_image.CoreImage.{CoreImage}
use Rattle.intake.specs.Calls.{OpenCall}
use Rattle.intake.specs.Parts.{Parts, state_of}
use Rattle.intake.specs.Step.{HasCase}
use Rattle.journal_layout.specs.Case.{Case}
use Rattle.journal_layout.specs.declared.entry.Kind.{Kind}
use Rattle.journal_layout.specs.declared.entry.Kind.TheVariants as kind
use Rattle.journal_layout.specs.declared.faults.OpenFault.{OpenFault}
use Rattle.case_info.specs.Fronts.{SaysCore}
use Rattle.case_info.specs.declared.case.InfoWords.{InfoWords}

-- the bytes that are held
abbrev pub held : Collected → List ℕ
held c = c.text.items

-- how many threads are shown at most: one, or with `--threads` 256, and in JSON each
abbrev pub most_threads : InfoWords → ℕ
most_threads words = if words.all_threads then (if words.is_json then 18446744073709551615 else 256) else 1

-- how many threads are shown of a core with these notes: 0, if it has a fault
abbrev pub shown_count : InfoWords → Result (List NoteView) CoreFault → ℕ
shown_count words (Ok notes) = min (thread_count (all_descs 1 notes)) (most_threads words)
shown_count words (Err fault) = 0

-- how many frames of the first thread, which dumped, get their source lines
abbrev pub screen_lines : ℕ
screen_lines = 24

-- A screen takes the facts that were found.
pub record AreFactsOf (f : CoreFacts) (a : CoreAnswers) : Type 0 where
  pub unwound : a.unwound.now ≡ f.unwound.items
  pub builds : option_map (λ (rows : Bor (List BuildAnswer)). rows.now) a.builds ≡ option_map (λ (v : Vec BuildAnswer Global). v.items) f.builds

-- The executables that are stored for the mapped files of a core, by their names or by the builds that the core has for them, are read, and then the debug
-- files of those that are used. With them the frames of the threads that are shown are found, the source lines of the first frames of the first thread, and
-- the build IDs of the files, of the image that was seen before. The screen shows these.
pub record FindsFacts {D : Type 0} (g : disk.Ghosts D) (old mid : Parts D) (seq : ℕ) (image front : List ℕ) (threads : ℕ) (a : CoreAnswers) (new : Parts D) : Type 0 where
  pub told : Option (List NamedId)
  pub states : told_of image ≡ told
  pub executables : List ExecutableView
  pub read : Parts D
  pub collects : CollectsAll g mid (wanted_by (told_or_none told) (state_of mid).cases) (Ok executables) read
  pub debug_files : List ExecutableView
  pub all : Parts D
  pub debugs : CollectsAll g read (debugs_by (told_or_none told) executables (state_of read).cases) (Ok debug_files) all
  pub facts : CoreFacts
  pub says : SaysFacts g old seq front (length image) told (executables ++ debug_files) threads screen_lines facts new
  pub are : AreFactsOf facts a

-- nothing more is read of a core that has a fault
abbrev pub AsksCore : {D : Type 0} → disk.Ghosts D → Parts D → Parts D → ℕ → List ℕ → InfoWords → Result CoreImage CoreFault → CoreAnswers → Parts D → Type 0
AsksCore g old mid seq image words (Ok core) a new = FindsFacts g old mid seq image (core_bytes core) (shown_count words (notes_in image)) a new
AsksCore g old mid seq image words (Err fault) a new = new ≡ mid

-- the screen of a case by the questions that are asked of it, in an archive, with its time in a zone
abbrev pub IsScreenBy : {D : Type 0} → Zone → Parts D → ℕ → CaseAnswers → Collected → Type 0
IsScreenBy zone a seq answers text = (c : Case) × HasCase (state_of a) seq c × (held text ≡ info_answer zone c (state_of a).cases answers)

-- The image of a core is seen. Its facts, and those of its memory, are shown.
abbrev pub ShowsCore : {D : Type 0} → disk.Ghosts D → Parts D → ℕ → Zone → InfoWords → Collected → Parts D → Type 0
ShowsCore {D} g old seq zone words text new =
    (image : List ℕ) × (mid : Parts D) × SeesImage g old seq image mid
    × (a : CoreAnswers) × SaysCore image a.core a.whole a.unread × AsksCore g old mid seq image words a.core a new × IsScreenBy zone new seq (Core a) text

-- The image of an executable is seen, and its file header is shown.
abbrev pub ShowsExec : {D : Type 0} → disk.Ghosts D → Parts D → ℕ → Zone → Collected → Parts D → Type 0
ShowsExec g old seq zone text new = (image : List ℕ) × SeesImage g old seq image new × IsScreenBy zone new seq (Exec (header_in image)) text

-- the screen of a case of that kind
abbrev pub ShowsKind : {D : Type 0} → disk.Ghosts D → Parts D → ℕ → Zone → InfoWords → Collected → Parts D → Kind → Type 0
ShowsKind g old seq zone words text new kind.Core = ShowsCore g old seq zone words text new
ShowsKind g old seq zone words text new kind.Exec = ShowsExec g old seq zone text new

-- The screen of a case, by its kind. JSON is left out.
abbrev pub ShowsCase : {D : Type 0} → disk.Ghosts D → Parts D → ℕ → Zone → InfoWords → Collected → Type 0
ShowsCase {D} g old seq zone words text = words.is_json ≡ false → (c : Case) × HasCase (state_of old) seq c × (new : Parts D) × ShowsKind g old seq zone words text new c.origin.kind

-- by the archive that was opened, or why it was not
abbrev pub ShowsBy : {D : Type 0} → disk.Ghosts D → ℕ → Zone → InfoWords → Result (Parts D) (OpenFault × D) → Result Collected Refusal → Type 0
ShowsBy g seq zone words (Ok a) r = IfOk r (ShowsCase g a seq zone words)
ShowsBy g seq zone words (Err (fault, d)) r = r ≡ Err (Open fault)

-- The archive on a disk is opened, and a case of it is shown.
abbrev pub ShowsOn : {D : Type 0} → disk.Ghosts D → ℕ → Zone → InfoWords → D → Result Collected Refusal → Type 0
ShowsOn {D} g seq zone words before r = (opened : Result (Parts D) (OpenFault × D)) × OpenCall g 0 before opened × ShowsBy g seq zone words opened r
