-- The requests that the words of a command make, except those of `store` and `handle`.
use Rattle.std.specs.Prelude.{◌≡◌, ℕ, ◌<◌, ◌==◌, Bool, true, false, not, List, [], ◌∷◌, ◌++◌, length, map, Ok, Option, None, Some, String, codes, option_map, string_bytes, unwrap_or, if◌then◌else◌}
use Rattle.std.specs.Option.{option_copied, option_map_or}
use Rattle.archive_files.specs.declared.archive_path.ArchivePath.{ArchivePath}
use Rattle.archive_files.specs.declared.archives.NewArchive.{NewArchive}
use Rattle.archive_files.specs.declared.copies.CopyWords.{CopyWords}
use Rattle.salvage.specs.declared.mending.ShapeWish.{ShapeWish}
use Rattle.archive_files.specs.declared.failures.Refusal.{Refusal}
use Rattle.case_info.specs.declared.prune.PruneWords.{PruneWords}
use Rattle.case_listing.specs.Foreseeing.{IsPolicyOf}
use Rattle.case_tables.specs.Filters.{SaysSignal}
use Rattle.case_tables.specs.declared.order.Order.{Order}
use Rattle.case_tables.specs.declared.order.Order.TheVariants.{Number, Time, Size, Name}
use Rattle.case_listing.specs.declared.listing.ListWords.{ListWords}
use Rattle.archive_files.specs.declared.failures.Refusal.TheVariants.{LineTooLong, NoLine}
use Rattle.command_words.specs.Lines.{joined}
use Rattle.command_words.specs.RawWords.{bytes_meant}
use Rattle.command_words.specs.Words.{IsRead, flag_in, number_in, small_number_in, text_in, words_in}
use Rattle.command_words.specs.declared.given.Given.{Given}
use Rattle.journal_layout.specs.declared.entry.Kind.{Kind}
use Rattle.journal_layout.specs.declared.entry.Kind.TheVariants.{Core, Exec}
use Rattle.journal_layout.specs.declared.shape.Shape.{Shape}
use Rattle.script_lines.specs.Commands.{question_said}
use Rattle.script_lines.specs.Said.{is_question, said, said_choosing}
use Rattle.script_lines.specs.declared.question.Question.{Question}
use Rattle.script_words.specs.Hex.{hex_of}
use Rattle.stream_names.specs.declared.naming.Naming.{Naming}
use Rattle.command_line.specs.Requesting.{AsksOfStore, Handles, IsGiven, IsGivenToHandle, IsUnspelled, number_said}
use Rattle.command_line.specs.declared.ask_words.AskedLine.{AskedLine}
use Rattle.command_line.specs.declared.ask_words.Form.{Form}
use Rattle.command_line.specs.declared.ask_words.Form.TheVariants.{Plain, Reply, Rows, Words}
use Rattle.command_line.specs.declared.asked.Asked.{Asked}
use Rattle.command_line.specs.declared.asked.ReadWords.{ReadWords}
use Rattle.command_line.specs.declared.asked.Asked.TheVariants as asked
use Rattle.command_line.specs.declared.asked.SessionWords.{SessionWords}
use Rattle.command_line.specs.declared.handle_words.GivenHandle.{GivenHandle}
use Rattle.command_line.specs.declared.named_words.NamedWords as named
use Rattle.command_line.specs.declared.store_words.GivenStore.{GivenStore}

-- ---- Words that several commands have.

-- the text of a word that must be there
abbrev pub text_said : Given → List ℕ → List ℕ
text_said given name = unwrap_or (text_in given name) []

-- `--half N` and `--data N`: the blocks of each half of the journal, and the data blocks
pub record IsShape (given : Given) (shape : Shape) : Type 0 where
  pub half : shape.half_blocks ≡ unwrap_or (small_number_in given (codes "half")) 0
  pub blocks : shape.data_blocks ≡ unwrap_or (small_number_in given (codes "data")) 0

-- `--layout 2`: the archive that is made keeps labels
abbrev pub labels_said : Given → Bool
labels_said given = option_map_or (λ version. version == 2) (number_in given (codes "layout")) false

-- the wanted form of an archive that is made
pub record IsNew (given : Given) (wanted : NewArchive) : Type 0 where
  pub shape : IsShape given wanted.shape
  pub labels : wanted.keeps_labels ≡ labels_said given
  pub sparse : wanted.is_sparse ≡ flag_in given (codes "sparse")

-- The shape of a copy: another size if `--half` or `--data` says one.
pub record IsCopy (given : Given) (wanted : CopyWords) : Type 0 where
  pub half : wanted.half_blocks ≡ small_number_in given (codes "half")
  pub blocks : wanted.data_blocks ≡ small_number_in given (codes "data")
  pub labels : wanted.keeps_labels ≡ labels_said given
  pub sparse : wanted.is_sparse ≡ flag_in given (codes "sparse")
  pub rights : wanted.drops_rights ≡ flag_in given (codes "drop-rights")

-- the shape of a damaged archive, as far as `--half` and `--data` say it
pub record IsWish (given : Given) (wish : ShapeWish) : Type 0 where
  pub half : wish.half_blocks ≡ small_number_in given (codes "half")
  pub blocks : wish.data_blocks ≡ small_number_in given (codes "data")

-- ARCHIVE, and whether to wait for another process that has it
pub record IsPlace (given : Given) (place : ArchivePath) : Type 0 where
  pub path : place.path.now ≡ text_said given (codes "archive")
  pub waits : place.waits ≡ not (flag_in given (codes "no-wait"))

-- how a session names its cores, and the most bytes of an image
pub record AreSettings (given : Given) (settings : SessionWords) : Type 0 where
  pub template : settings.template.now ≡ text_said given (codes "template")
  pub process : settings.uses_pid ≡ flag_in given (codes "uses-pid")
  pub limit : settings.limit ≡ unwrap_or (number_in given (codes "limit")) 0

-- how cases are named in a session, by its words
abbrev pub naming_by : SessionWords → Bool → Naming
naming_by settings by_build = record { template = record { bytes = record { items = settings.template.now } }; uses_pid = settings.uses_pid; by_build = by_build }

-- the value under a name is the one that clap found there
abbrev pub found_under : named.Ghosts Given
found_under = record {
  stands = λ words name value. value ≡ text_in words name;
  stated = λ words name is_there. is_there ≡ flag_in words name;
  counts = λ words name number. number ≡ unwrap_or (number_in words name) 0;
}

-- ---- The line of `ask`.

-- the digits behind the words of a line, if it has some
abbrev pub digits_behind : {Z : Type 0} → Option (String Z) → List (List ℕ)
digits_behind None = []
digits_behind (Some digits) = string_bytes digits ∷ []

-- the words of a line
abbrev pub words_of : AskedLine → List (List ℕ)
words_of line = map (λ word. word.now) line.words.items ++ digits_behind line.digits

-- The question of a line is the one that the script has for its words with a space between them; with `--builds` executables are chosen by build. If its
-- words make no question, its second word names a case, or its third one a register.
abbrev pub IsAsked : Bool → List ℕ → Option Question → Type 0
IsAsked by_build line None = is_question (said line) ≡ false
IsAsked by_build line (Some question) = question_said question ≡ said_choosing by_build (said line)

-- Why a line is refused: it is too long, or asks nothing, or is no line.
abbrev pub IsNoQuestion : List ℕ → Refusal → Type 0
IsNoQuestion line LineTooLong = 1024 < length line
IsNoQuestion line (NoLine words) = is_question (said line) ≡ false
IsNoQuestion line why = IsUnspelled why

-- `--json` goes before `--words`, and that before `--plain`
abbrev pub form_said : Given → Form
form_said given = if flag_in given (codes "json") then Rows else if flag_in given (codes "words") then Words else if flag_in given (codes "plain") then Plain else Reply

-- the digits of the bytes of a text
abbrev pub digits_meant : Option (List ℕ) → List (List ℕ)
digits_meant None = []
digits_meant (Some text) = hex_of (bytes_meant text) ∷ []

-- The line has the words of `ask`, and behind them the digits of `--text`.
pub record IsLine (given : Given) (line : AskedLine) : Type 0 where
  pub words : words_of line ≡ words_in given ++ digits_meant (text_in given (codes "text"))
  pub form : line.form ≡ form_said given
  pub by_build : line.by_build ≡ flag_in given (codes "builds")

-- ---- The cases that `list` is to show.

-- `--kind`: the kind that it names, if it is there
abbrev pub IsKind : Option (List ℕ) → Option Kind → Type 0
IsKind None kind = kind ≡ None
IsKind (Some text) None = ⊥
IsKind (Some text) (Some Core) = text ≡ codes "core"
IsKind (Some text) (Some Exec) = text ≡ codes "exec"

-- `--signal`: there is a signal exactly if it is there, and it is the one that the text says.
abbrev pub IsThereWith : Option (List ℕ) → Option ℕ → Type 0
IsThereWith None signal = signal ≡ None
IsThereWith (Some text) None = ⊥
IsThereWith (Some text) (Some signal) = SaysSignal text (Some signal)

-- `--sort`: the order that it names; that of the numbers, if it is not there
abbrev pub IsOrder : Option (List ℕ) → Order → Type 0
IsOrder None order = order ≡ Number
IsOrder (Some text) Number = ⊥
IsOrder (Some text) Time = text ≡ codes "time"
IsOrder (Some text) Size = text ≡ codes "size"
IsOrder (Some text) Name = text ≡ codes "name"

-- Which cases `list` is to show, each fact under its own name. The times are read later, once the clock was asked.
pub record IsListed (given : Given) (words : ListWords) : Type 0 where
  pub kind : IsKind (text_in given (codes "kind")) words.wanted.kind
  pub numbers : words.wanted.numbers ≡ None
  pub name : option_map (λ (t : _). t.now) words.wanted.name ≡ text_in given (codes "name")
  pub pid : words.wanted.pid ≡ number_in given (codes "pid")
  pub user : words.wanted.user ≡ number_in given (codes "user")
  pub program : option_map (λ (t : _). t.now) words.wanted.program ≡ text_in given (codes "program")
  pub signal : IsThereWith (text_in given (codes "signal")) words.wanted.signal
  pub label : option_map (λ (t : _). t.now) words.wanted.label ≡ text_in given (codes "label")
  pub pinned : words.wanted.pinned ≡ flag_in given (codes "pinned")
  pub last : words.wanted.last ≡ number_in given (codes "last")
  pub order : IsOrder (text_in given (codes "sort")) words.wanted.order
  pub since : option_copied words.since ≡ text_in given (codes "since")
  pub until : option_copied words.until ≡ text_in given (codes "until")
  pub json : words.is_json ≡ flag_in given (codes "json")
  pub lines : words.by_lines ≡ flag_in given (codes "json-lines")

-- ---- The cases that `prune` is to drop.

-- The limits of the cores that stay, each as its word says it, and whether the cases are deleted.
pub record IsPruned (given : Given) (words : PruneWords) : Type 0 where
  pub cores : number_said (text_in given (codes "cores")) ≡ Ok words.policy.keep
  pub bytes : number_said (text_in given (codes "bytes")) ≡ Ok words.policy.bytes
  pub before : number_said (text_in given (codes "before")) ≡ Ok words.policy.before
  pub deletes : words.deletes ≡ flag_in given (codes "yes")

-- ---- The request of each command.

-- an archive in a new file
abbrev pub IsFormat : Given → Asked → Type 0
IsFormat given (asked.Format archive wanted) = (archive.now ≡ text_said given (codes "archive")) × IsNew given wanted
IsFormat given _ = ⊥

-- One line, or which cases `retire` would drop.
abbrev pub IsAsk : Given → ArchivePath → Asked → Type 0
IsAsk given archive (asked.Ask place line question) = (place ≡ archive) × IsLine given line × IsAsked line.by_build (joined (words_of line)) question
IsAsk given archive (asked.WouldRetire place policy) = (place ≡ archive) × IsPolicyOf (words_in given) (Some policy)
IsAsk given archive _ = ⊥

-- the commands over the archive in a file
abbrev pub names_over : List (List ℕ)
names_over =
    codes "run" ∷ codes "store" ∷ codes "extract" ∷ codes "digest" ∷ codes "unpack" ∷ codes "list" ∷ codes "ask" ∷ codes "info" ∷ codes "wants" ∷ codes "groups" ∷ codes "report" ∷ codes "search" ∷ codes "prune" ∷ codes "look" ∷ codes "check" ∷ codes "copy" ∷ codes "resize" ∷ codes "salvage" ∷ []

-- a command that has none of these names
abbrev pub IsNoneOf : List ℕ → List (List ℕ) → Type 0
IsNoneOf command [] = Unit {0}
IsNoneOf command (name ∷ names) = (command ≡ name → ⊥) × IsNoneOf command names

-- the request of a command over an archive
abbrev pub IsOver : Given → ArchivePath → Asked → Type 0
IsOver given archive (asked.Run place settings by_build) = (given.command.now ≡ codes "run") × (place ≡ archive) × AreSettings given settings × (by_build ≡ flag_in given (codes "builds"))
IsOver given archive (asked.Store place file stall request log spool) =
    (given.command.now ≡ codes "store") × (store : GivenStore) × IsGiven found_under given store × (store.pairs.now ≡ given.words.items) × AsksOfStore store archive (asked.Store place file stall request log spool)
IsOver given archive (asked.StoreBuild place file build log) =
    (given.command.now ≡ codes "store") × (store : GivenStore) × IsGiven found_under given store × (store.pairs.now ≡ given.words.items) × AsksOfStore store archive (asked.StoreBuild place file build log)
IsOver given archive (asked.Extract place case file) =
    (given.command.now ≡ codes "extract") × (place ≡ archive) × (case.now ≡ text_said given (codes "case")) × (option_copied file ≡ text_in given (codes "file"))
IsOver given archive (asked.Digest place cases) = (given.command.now ≡ codes "digest") × (place ≡ archive) × (map (λ case. case.now) cases.items ≡ words_in given)
IsOver given archive (asked.Unpack place case folder) =
    (given.command.now ≡ codes "unpack") × (place ≡ archive) × (case.now ≡ text_said given (codes "case")) × (folder.now ≡ text_said given (codes "dir"))
IsOver given archive (asked.List place wanted) = (given.command.now ≡ codes "list") × (place ≡ archive) × IsListed given wanted
IsOver given archive (asked.Ask place line question) = (given.command.now ≡ codes "ask") × IsAsk given archive (asked.Ask place line question)
IsOver given archive (asked.WouldRetire place policy) = (given.command.now ≡ codes "ask") × IsAsk given archive (asked.WouldRetire place policy)
IsOver given archive (asked.Metrics path) =
    (given.command.now ≡ codes "info") × (path ≡ archive.path) × (flag_in given (codes "metrics") ≡ true) × (text_in given (codes "case") ≡ None)
IsOver given archive (asked.Info place case wanted) =
    (given.command.now ≡ codes "info") × (place ≡ archive) × (option_copied case ≡ text_in given (codes "case")) × (flag_in given (codes "metrics") ≡ false)
    × (wanted.all_threads ≡ flag_in given (codes "threads")) × (wanted.is_json ≡ flag_in given (codes "json"))
IsOver given archive (asked.Wants place case wanted) =
    (given.command.now ≡ codes "wants") × (place ≡ archive) × (option_copied case ≡ text_in given (codes "case"))
    × (wanted.ids_alone ≡ flag_in given (codes "ids")) × (wanted.is_json ≡ flag_in given (codes "json"))
IsOver given archive (asked.Groups place wanted) =
    (given.command.now ≡ codes "groups") × (place ≡ archive) × (option_copied wanted.case ≡ text_in given (codes "case")) × IsListed given wanted.list
IsOver given archive (asked.Report place cases) =
    (given.command.now ≡ codes "report") × (place ≡ archive) × (map (λ case. case.now) cases.items ≡ words_in given)
IsOver given archive (asked.Search place wanted) =
    (given.command.now ≡ codes "search") × (place ≡ archive) × (wanted.text.now ≡ text_said given (codes "text")) × IsListed given wanted.list
IsOver given archive (asked.Prune place wanted) = (given.command.now ≡ codes "prune") × (place ≡ archive) × IsPruned given wanted
IsOver given archive (asked.Look place by_build) = (given.command.now ≡ codes "look") × (place ≡ archive) × (by_build ≡ flag_in given (codes "builds"))
IsOver given archive (asked.Check place sees_images) = (given.command.now ≡ codes "check") × (place ≡ archive) × (sees_images ≡ flag_in given (codes "images"))
IsOver given archive (asked.Copy place new wanted) = (given.command.now ≡ codes "copy") × (place ≡ archive) × (new.now ≡ text_said given (codes "new")) × IsCopy given wanted
IsOver given archive (asked.Resize place wanted) = (given.command.now ≡ codes "resize") × (place ≡ archive) × IsCopy given wanted
IsOver given archive (asked.Salvage place new) =
    (given.command.now ≡ codes "salvage") × (place ≡ archive) × (new.path.now ≡ text_said given (codes "new")) × IsWish given new.wish
IsOver given archive asked.Nothing = IsNoneOf given.command.now names_over
IsOver given archive _ = ⊥

-- the request that the words of a command make
abbrev pub IsAskedBy : Given → Asked → Type 0
IsAskedBy given (asked.Format archive wanted) = (given.command.now ≡ codes "format") × IsFormat given (asked.Format archive wanted)
IsAskedBy given (asked.Memory shape settings by_build) = (given.command.now ≡ codes "memory") × IsShape given shape × AreSettings given settings × (by_build ≡ flag_in given (codes "builds"))
IsAskedBy given (asked.Handle words) =
    (given.command.now ≡ codes "handle") × (handle : GivenHandle) × IsGivenToHandle found_under given handle × (handle.words.now ≡ given.words.items) × Handles handle words
IsAskedBy given other = (archive : ArchivePath) × IsPlace given archive × IsOver given archive other

-- The request of words: that of the command that they give; and whether `--quiet` is there.
abbrev pub AreAsked : List (List ℕ) → ReadWords → Type 0
AreAsked words read =
    (given : Given) × IsRead words given × IsAskedBy given read.asked × (read.is_quiet ≡ flag_in given (codes "quiet")) × (read.is_local ≡ flag_in given (codes "local"))
