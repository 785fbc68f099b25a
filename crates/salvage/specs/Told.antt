-- The lines that a salvage prints about the cases of an archive.
use Rattle.std.specs.Prelude.{Some, ◌≡◌, ◌≢◌, ◌⊎◌, ℕ, Bool, List, [], ◌∷◌, ◌++◌, Option, None, Result, is_ok}
use Rattle.std.specs.List.{Contains, flat_map}
use Rattle.journal_layout.specs.Case.{Case, case_of}
use Rattle.journal_layout.specs.declared.faults.OpenFault.TheVariants.{UnknownVersion}
use Rattle.salvage.specs.Cases.{HasCase, IsSameCase}
use Rattle.salvage.specs.Readings.{IsWholeIn, cases_by, first_fault, reason_by}
use Rattle.salvage.specs.Reads.{IsAmong}
use Rattle.salvage.specs.Records.{IsDeletedAt}
use Rattle.salvage.specs.Texts.{case_line, front_lines}
use Rattle.salvage.specs.declared.cases_found.Found.{Found}
use Rattle.salvage.specs.declared.cases_found.Loss.{Loss}
use Rattle.salvage.specs.declared.records.Read.{Read}
use Rattle.salvage.specs.declared.printing.Mark.{Mark}
use Rattle.salvage.specs.declared.printing.Mark.TheVariants.{Whole, Doubtful, Cut, Lost}
use Rattle.script_streams.specs.Replies.{Printing, PrintsText}
use Rattle.script_streams.specs.Printing.{IsDelivered}
use Rattle.script_streams.specs.declared.streams.StreamFault.{StreamFault}

-- a case, and the report on it
pub record Line : Type 0 where
  pub case : Case
  pub mark : Mark

abbrev pub line_text : Line → List ℕ
line_text l = case_line l.case.seq l.mark l.case.origin.name

abbrev pub lines_text : List Line → List ℕ
lines_text lines = flat_map line_text lines

-- there is a fault, or another front is read than the archive's
abbrev pub HasDoubt : Found → Type 0
HasDoubt f = (first_fault f ≢ None) ⊎ (f.mend ≢ None)

-- A copied case is reported as whole only if it is. If it is doubtful, there is a fault, and a place that is printed with it is that of
-- a Drop record which names it.
abbrev pub IsMarked : Found → Case → Mark → Type 0
IsMarked f c Whole = IsWholeIn f c
IsMarked f c (Doubtful place) = HasDoubt f × IsDeletedAt f.scan.drops.items c.seq place
IsMarked f c Cut = f.mend ≢ None
IsMarked f c (Lost loss place) = ⊥

-- these lines are of these cases, one each, in their order
abbrev pub AreCopied : Found → List Case → List Line → Type 0
AreCopied f [] lines = lines ≡ []
AreCopied f (c ∷ cases) lines =
    (mark : Mark) × (rest : List Line) × IsMarked f c mark × AreCopied f cases rest × (lines ≡ record { case = c; mark = mark } ∷ rest)

-- the cases that are copied
abbrev pub copied_cases : Found → List Case
copied_cases f = cases_by f.more f.first.standing

-- the case of each of these reads is one of those
abbrev pub HasAll : List Case → List Read → Type 0
HasAll cases [] = Unit {0}
HasAll cases (r ∷ rest) = HasCase cases (case_of r.entry) × HasAll cases rest

-- the version of each half is known, and the case of each record that reads is copied
abbrev pub IsAll : Found → Type 0
IsAll f = ((version : ℕ) → reason_by f.mend f.sight.fault ≢ Some (UnknownVersion version)) × HasAll (copied_cases f) f.scan.reads.items

-- A read whose case is not copied is reported as lost; or it has no line, since its case is copied, or one of the reads before it has the same
-- case.
abbrev pub IsLost : Found → List Read → Case → List Line → Type 0
IsLost f before c lines =
    ((lines ≡ []) × (HasCase (copied_cases f) c ⊎ IsAmong before c))
    ⊎ ((loss : Loss) × (place : Option ℕ) × (HasCase (copied_cases f) c → ⊥) × IsDeletedAt f.scan.drops.items c.seq place × (lines ≡ record { case = c; mark = Lost loss place } ∷ []))

-- the report on these reads, the last one first, if these others are before them
abbrev pub AreLost : Found → List Read → List Read → List Line → Type 0
AreLost f before [] lines = lines ≡ []
AreLost f before (r ∷ rest) lines =
    (later : List Line) × (one : List Line) × AreLost f (before ++ r ∷ []) rest later × IsLost f before (case_of r.entry) one × (lines ≡ later ++ one)

-- The report on the cases: those that are copied, in the order of their numbers, and then those that a record stores and that are not copied.
pub record AreTold (f : Found) (lines : List Line) : Type 0 where
  pub copied : List Line
  pub lost : List Line
  pub each_copied : AreCopied f (copied_cases f) copied
  pub each_lost : AreLost f [] f.scan.reads.items lost
  pub all : lines ≡ copied ++ lost

-- a line is about this case: it has its number and its name, and is of the same image
abbrev pub IsTold : List Line → Case → Type 0
IsTold lines c = (l : Line) × Contains lines l × IsSameCase l.case c

-- each of these lines is printed with this outcome
abbrev pub PrintsLines : Printing → (List Line → Type 0) → Type 0
PrintsLines t P = (lines : List Line) × P lines × PrintsText t (lines_text lines)

-- the first fault, the shape if it is another, and these lines go to an output that had taken `before`, and the answer says whether it has taken all
abbrev pub PrintsCases : Found → Option (List ℕ) → Option (List ℕ) → ℕ → ℕ → Bool → Type 0
PrintsCases f before after count count' done =
    (lines : List Line) × (sent : Result (Unit {0}) StreamFault) × AreTold f lines
    × IsDelivered before count after count' (front_lines f ++ lines_text lines) sent × (done ≡ is_ok sent)
