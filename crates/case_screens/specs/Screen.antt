-- The screen of a case: its facts, those of its image, and the answers to the lines of a script about it.
use Rattle.std.specs.Prelude.{ℕ, ◌-◌, Bool, nat_lt, if◌then◌else◌, Option, None, Some, Result, Ok, Err, List, [], ◌∷◌, ◌++◌, length, codes, decimal}
use Rattle.std.specs.Borrow.{Bor}
use Rattle.std.specs.Option.{option_map}
use Rattle.build_replies.specs.declared.answers.BuildAnswer.{BuildAnswer}
use Rattle.journal_layout.specs.Case.{Case}
use Rattle.elf_view.specs.declared.faults.ElfFault.{ElfFault}
use Rattle.elf_view.specs.declared.view.Header.{Header}
use Rattle.script_words.specs.Printing.{hexadecimal, shown}
use Rattle.case_tables.specs.Sizes.{size_text}
use Rattle.case_tables.specs.Table.{spaces}
use Rattle.case_tables.specs.Times.{time_in}
use Rattle.case_tables.specs.declared.zones.Zone.{Zone}
use Rattle.case_screens.specs.Files.{files_text}
use Rattle.case_screens.specs.Frames.{threads_text}
use Rattle.case_screens.specs.Core.{desc_in, notes_read}
use Rattle.case_screens.specs.Process.{process_text}
use Rattle.case_screens.specs.Signal.{signal_line}
use Rattle.case_screens.specs.Reasons.{elf_reason}
use Rattle.case_screens.specs.Texts.{refused_line}
use Rattle.case_screens.specs.declared.answer.CoreAnswers.{CoreAnswers}
use Rattle.case_screens.specs.declared.answer.CaseAnswers.{CaseAnswers}
use Rattle.case_screens.specs.declared.answer.CaseAnswers.TheVariants.{Core, Exec}
use Rattle.core_checks.specs.declared.notes.UnreadNotes.{UnreadNotes}
use Rattle.core_checks.specs.declared.notes.UnreadNotes.TheVariants.{Padded, Linux}

abbrev pub pin_text : Bool → List ℕ
pin_text pinned = if pinned then codes ", pinned" else codes ", not pinned"

-- nothing, if it has no label
abbrev pub label_text : List ℕ → List ℕ
label_text [] = []
label_text (c ∷ cs) = codes ", label " ++ shown (c ∷ cs)

-- its name, number and size, and whether it is pinned
abbrev pub head_text : Case → List ℕ
head_text c =
    shown c.origin.name ++ (spaces (36 - length (shown c.origin.name)) ++ (codes "  case " ++ (decimal c.seq ++ (codes ", " ++ (size_text c.len ++ (pin_text c.pinned
    ++ (label_text c.label ++ 10 ∷ [])))))))

-- when it was
abbrev pub when_text : Zone → ℕ → List ℕ
when_text zone time = codes "when      " ++ (time_in zone time ++ 10 ∷ [])

-- how many bytes there are of it, and how many its program headers want, if that is more
abbrev pub cut_line : ℕ → Option ℕ → List ℕ
cut_line has None = []
cut_line has (Some whole) = if nat_lt has whole then codes "cut       " ++ (size_text has ++ (codes " of " ++ (size_text whole ++ 10 ∷ []))) else []

-- why notes of it are not read as they are meant, if some are not
abbrev pub notes_line : Option UnreadNotes → List ℕ
notes_line None = []
notes_line (Some Padded) = codes "notes     padded to 8 bytes: only those padded to 4 are read" ++ 10 ∷ []
notes_line (Some Linux) = codes "notes     of threads are named LINUX: only those named CORE are read" ++ 10 ∷ []

-- a core
abbrev pub core_text : Zone → Case → List Case → CoreAnswers → List ℕ
core_text zone c cases a =
    when_text zone c.origin.time ++ (cut_line c.len a.whole ++ (notes_line a.unread ++ (process_text (desc_in 3 (notes_read a.core))
    ++ (signal_line c.origin.signal (desc_in 0x53494749 (notes_read a.core)) ++ (threads_text (notes_read a.core) a.unwound.now
    ++ files_text cases (notes_read a.core) (option_map (λ (rows : Bor (List BuildAnswer)). rows.now) a.builds))))))

-- the file header of an executable (System V gABI, "ELF Header")
abbrev pub header_text : Header → List ℕ
header_text h =
    codes "header    type " ++ (decimal h.kind ++ (codes ", entry " ++ (hexadecimal h.entry ++ (codes ", flags "
    ++ (hexadecimal h.flags ++ (codes ", " ++ (decimal h.segments ++ (codes " program headers" ++ 10 ∷ []))))))))

abbrev pub exec_text : Result Header ElfFault → List ℕ
exec_text (Ok h) = header_text h
exec_text (Err fault) = refused_line (codes "header    ") (elf_reason fault)

abbrev pub answers_text : Zone → Case → List Case → CaseAnswers → List ℕ
answers_text zone c cases (Core a) = core_text zone c cases a
answers_text zone c cases (Exec header) = exec_text header

-- all that is shown of a case, with its time in a zone
abbrev pub info_answer : Zone → Case → List Case → CaseAnswers → List ℕ
info_answer zone c cases a = head_text c ++ answers_text zone c cases a
