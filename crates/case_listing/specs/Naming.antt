-- The case of an archive that a word names.
use Rattle.std.specs.Prelude.{◌≡◌, ℕ, false, List, [], ◌∷◌, Option, None, Some, Result, Ok, Err, codes}
use Rattle.archive_files.specs.declared.failures.Refusal.{Refusal}
use Rattle.archive_files.specs.declared.failures.Refusal.TheVariants.{Call, Open}
use Rattle.case_tables.specs.Named.{named_number}
use Rattle.command_words.specs.Lines.{joined}
use Rattle.disk_model.specs.declared.disk.Disk as disk
use Rattle.intake.specs.Calls.{OpenCall}
use Rattle.intake.specs.Parts.{Parts, state_of}
use Rattle.intake.specs.declared.faults.ArchiveFault.TheVariants.{NoCase}
use Rattle.journal_layout.specs.declared.faults.OpenFault.{OpenFault}
use Rattle.script_lines.specs.Commands.{question_said}
use Rattle.script_lines.specs.Said.{is_question, said}
use Rattle.script_lines.specs.declared.question.Question.{Question}

-- a number, or that no case has the name
abbrev pub number_found : Option ℕ → Result ℕ Refusal
number_found (Some n) = Ok n
number_found None = Err (Call NoCase)

-- by the cases of an archive that was opened, or why it was not
abbrev pub NamedBy : {D : Type 0} → ℕ → List ℕ → Result (Parts D) (OpenFault × D) → Result ℕ Refusal → Type 0
NamedBy until word (Ok a) r = r ≡ number_found (named_number until word (state_of a).cases)
NamedBy until word (Err (fault, d)) r = r ≡ Err (Open fault)

-- The archive on a disk is opened, and the number of the case is found that a word names. No core is from after a moment.
abbrev pub NamesOn : {D : Type 0} → disk.Ghosts D → ℕ → List ℕ → D → Result ℕ Refusal → Type 0
NamesOn {D} g until word before r = (opened : Result (Parts D) (OpenFault × D)) × OpenCall g 0 before opened × NamedBy until word opened r

-- The request of a line is that of the script, or none.
abbrev pub AsksLine : List ℕ → Option Question → Type 0
AsksLine line None = is_question (said line) ≡ false
AsksLine line (Some question) = question_said question ≡ said line

-- the words with this number as the second one
abbrev pub with_second : List ℕ → List (List ℕ) → List (List ℕ)
with_second number [] = []
with_second number (first ∷ []) = first ∷ []
with_second number (first ∷ second ∷ others) = first ∷ number ∷ others

-- The question of words if the second one is this number, and all others are as they are. Fewer than two words are no question.
abbrev pub AsksWith : List ℕ → List (List ℕ) → Option Question → Type 0
AsksWith number (first ∷ second ∷ others) asked = AsksLine (joined (with_second number (first ∷ second ∷ others))) asked
AsksWith number words asked = asked ≡ None

-- Words whose second one may name a case have the same request as with the case 1.
abbrev pub NamesCase : List (List ℕ) → Option Question → Type 0
NamesCase words None = Unit {0}
NamesCase words (Some question) = AsksWith (codes "1") words (Some question)
