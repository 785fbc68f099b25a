-- The files that a core had mapped, and which of them are stored.
use Rattle.std.specs.Prelude.{ℕ, nat_lt, if◌then◌else◌, Bool, false, List, [], ◌∷◌, ◌++◌, length, take, find, Option, None, Some, Result, Ok, Err, codes, decimal}
use Rattle.build_ids.specs.BuildName as build
use Rattle.address_space.specs.Source.{ExecutableView}
use Rattle.build_replies.specs.Builds.{BuildValue}
use Rattle.build_replies.specs.ByBuild.{Chosen, by_build, by_path, none, other}
use Rattle.build_replies.specs.Mapped.{build_view}
use Rattle.build_replies.specs.declared.answers.BuildAnswer.{BuildAnswer}
use Rattle.elf_view.specs.NoteList.{NoteView}
use Rattle.image_replies.specs.Lines.{numbered_lines}
use Rattle.image_replies.specs.declared.core_image.CoreFault.{CoreFault}
use Rattle.journal_layout.specs.Case.{Case}
use Rattle.journal_layout.specs.declared.entry.Kind.TheVariants.{Exec}
use Rattle.script_words.specs.Printing.{shown}
use Rattle.case_tables.specs.Named.{has_name}
use Rattle.case_tables.specs.Table.{left_text}
use Rattle.case_tables.specs.Wanted.{is_same_kind}
use Rattle.case_screens.specs.Quotes.{quoted}
use Rattle.case_screens.specs.Reasons.{core_reason, missing}
use Rattle.case_screens.specs.Texts.{label_at, margin, name_text, refused_line, rest_after}

-- the number of the case, if it is an executable
abbrev pub exec_number : Option Case → Option ℕ
exec_number None = None
exec_number (Some c) = if is_same_kind Exec c.origin.kind then Some c.seq else None

-- the number of the executable that is stored under a name
abbrev pub stored_number : List Case → List ℕ → Option ℕ
stored_number cases name = exec_number (find (has_name name) cases)

-- a build that a case can be named by
abbrev pub has_build : Option (List ℕ) → Bool
has_build None = false
has_build (Some id) = build.has_name id

-- the command that stores a file, with its name whole; no case has a name of over 128 bytes
abbrev pub exec_text : List ℕ → List ℕ
exec_text name = if nat_lt 128 (length name) then codes "not stored: its name has over 128 bytes" else codes "not stored: corekeep store ARCHIVE FILE --exec " ++ quoted (shown name)

-- the command that stores it by its build, if the core has one; else the other
abbrev pub store_text : Bool → List ℕ → List ℕ
store_text told name = if told then codes "not stored: corekeep store ARCHIVE FILE --build" else exec_text name

-- the number of a case, if it is there
abbrev pub number_text : Option ℕ → List ℕ
number_text None = codes "?"
number_text (Some seq) = decimal seq

-- the case with its debug file, if there is one
abbrev pub debug_text : List Case → Option ExecutableView → List ℕ
debug_text cases None = []
debug_text cases (Some d) = codes ", debug file case " ++ number_text (stored_number cases d.path)

-- the executable of this case is used, with that debug file
abbrev pub used_text : Option ℕ → List Case → Option ExecutableView → List ℕ
used_text number cases debug = codes "stored as case " ++ (number_text number ++ debug_text cases debug)

-- that of this case is not
abbrev pub other_text : Option ℕ → List ℕ
other_text number = codes "not stored, case " ++ (number_text number ++ codes " is of another build: corekeep store ARCHIVE FILE --build")

abbrev pub chosen_text : List Case → List ℕ → Option (List ℕ) → Option ExecutableView → Chosen → List ℕ
chosen_text cases name core debug (by_build x) = used_text (stored_number cases x.path) cases debug
chosen_text cases name core debug (by_path x) = used_text (stored_number cases x.path) cases debug
chosen_text cases name core debug (other x) = other_text (stored_number cases x.path)
chosen_text cases name core debug none = store_text (has_build core) name

-- the stored files of a mapped file
abbrev pub stored_text : List Case → BuildValue → List ℕ
stored_text cases v = chosen_text cases v.name v.core v.debug v.chosen

-- a mapped file
abbrev pub file_row : List Case → ℕ → BuildAnswer → List ℕ
file_row cases k r =
    label_at (codes "files     ") k ++ (left_text 34 (name_text r.front.name.now) ++ (stored_text cases (build_view r) ++ 10 ∷ []))

-- those of a core, at most 256, or why they are not shown
abbrev pub files_text : List Case → Result (List NoteView) CoreFault → Option (List BuildAnswer) → List ℕ
files_text cases (Err fault) rows = refused_line (codes "files     ") (core_reason fault)
files_text cases (Ok notes) None = refused_line (codes "files     ") missing
files_text cases (Ok notes) (Some rows) = numbered_lines (file_row cases) 0 (take 256 rows) ++ rest_after margin 256 (length rows)
