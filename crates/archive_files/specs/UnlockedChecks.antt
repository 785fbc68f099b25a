-- A check between two looks at its disk.
use Rattle.std.specs.Prelude.{◌≡◌, ◌⊎◌, ◌<◌, ℕ, Bool, true, List, [], ◌∷◌, ◌++◌, length, Option, None, Some, Result, Ok, Err, Vec, IsTrue, codes, if◌then◌else◌}
use Rattle.std.specs.Global.{Global}
use Rattle.std.specs.List.{flat_map}
use Rattle.std.specs.Io.KnownBytes.{Appends}
use Rattle.disk_model.specs.declared.disk.Disk as disk
use Rattle.intake.specs.Calls.{OpenCall}
use Rattle.intake.specs.Durable.{Durable, FoundCase}
use Rattle.intake.specs.InTurn.{last_state}
use Rattle.intake.specs.Parts.{Parts, state_of}
use Rattle.intake.specs.Reading.{IsReadFault}
use Rattle.intake.specs.Step.{FreeReply}
use Rattle.intake.specs.declared.faults.ArchiveFault.TheVariants.{OutOfMemory}
use Rattle.intake.specs.declared.space.Space.{Space}
use Rattle.journal_layout.specs.Case.{Case}
use Rattle.script_streams.specs.Printing.{IsDelivered}
use Rattle.script_streams.specs.declared.streams.StreamFault.{StreamFault}
use Rattle.shared_disk.specs.Looks.{under}
use Rattle.shared_disk.specs.declared.shared.SharedDisk as shared
use Rattle.shared_disk.specs.declared.unlocked.Unlocked.{Unlocked}
use Rattle.archive_checks.specs.Checking.{cases_seen}
use Rattle.archive_checks.specs.Texts.{facts_lines}
use Rattle.archive_checks.specs.Verdicts.{gone_line, verdict_line, verdict_of}
use Rattle.archive_checks.specs.declared.verdict.Verdict.{Verdict}
use Rattle.archive_files.specs.UnlockedCopies.{Meanwhile}
use Rattle.archive_files.specs.History.{HasNone, HasOne, IsNumbered}
use Rattle.archive_files.specs.UnlockedImages.{AreSeen, IsRead}
use Rattle.archive_files.specs.Opening.{RefusesAgain, RefusesOpening}
use Rattle.archive_files.specs.declared.unlocked_checks.Findings.{Findings}
use Rattle.archive_files.specs.declared.unlocked_checks.ToldCase.{ToldCase}
use Rattle.archive_files.specs.declared.unlocked_faults.UnlockedCheckFault.{UnlockedCheckFault}
use Rattle.archive_files.specs.declared.unlocked_faults.UnlockedCheckFault.TheVariants as fault
use Rattle.archive_files.specs.declared.unlocked_images.SeenCase.{SeenCase}

-- the finding on the image of the case of this number at the last look
abbrev pub IsVerdictOf : Durable → ℕ → Verdict → Type 0
IsVerdictOf x seq verdict = HasOne x seq × ((f : FoundCase) → IsNumbered x seq f → verdict ≡ verdict_of f.case.origin.kind f.image)

-- the line of a case that is there at the next look too: the finding on its image
abbrev pub ToldAsThere : {S : Type 0} → shared.Ghosts S → S → ℕ → List ℕ → Type 0
ToldAsThere g s seq line = (verdict : Verdict) × (line ≡ verdict_line seq verdict) × Meanwhile g s (λ x ys. HasOne (last_state x ys) seq × IsVerdictOf x seq verdict)

-- the line of one that is gone by then
abbrev pub ToldAsGone : {S : Type 0} → shared.Ghosts S → S → ℕ → List ℕ → Type 0
ToldAsGone g s seq line = (line ≡ gone_line seq) × Meanwhile g s (λ x ys. HasNone (last_state x ys) seq)

-- a line for each of these cases, in order
abbrev pub CasesTold : {S : Type 0} → shared.Ghosts S → S → List Case → List ℕ → Type 0
CasesTold g s [] lines = lines ≡ []
CasesTold g s (c ∷ cs) lines = (one : List ℕ) × (rest : List ℕ) × (lines ≡ one ++ rest) × (ToldAsThere g s c.seq one ⊎ ToldAsGone g s c.seq one) × CasesTold g s cs rest

-- The text of a check: the contents of the archive that the last look saw, a line for each of its cases if the images are asked for, and `sound`.
abbrev pub IsCheckText : {S : Type 0} (g : shared.Ghosts S) → disk.Ghosts (Unlocked S g) → S → Bool → List ℕ → Type 0
IsCheckText {S} g U s sees text =
    (d : Unlocked S g) × (under d ≡ s) × Meanwhile g s (λ x ys. IsTrue (U.is_honest d)) × (a : Parts (Unlocked S g)) × OpenCall U 0 d (Ok a)
    × (space : Space) × FreeReply (state_of a) (Ok space) × (lines : List ℕ) × CasesTold g s (cases_seen (state_of a) sees) lines
    × (text ≡ facts_lines (state_of a).version (length (state_of a).cases) space ++ (lines ++ codes "sound\n"))

-- The contents of the archive at the last look are printed, and for each case the finding on its image, or that it is gone. Each refusal has
-- its reason. With any result but a failure of the output nothing is written.
abbrev pub ChecksUnlocked : {S : Type 0} (g : shared.Ghosts S) → disk.Ghosts (Unlocked S g) → S → Bool → Option (List ℕ) → Option (List ℕ) → ℕ → ℕ → Result (Unit {0}) UnlockedCheckFault → Type 0
ChecksUnlocked g U s sees taken taken' lost lost' (Ok u) = (text : List ℕ) × IsCheckText g U s sees text × Appends taken taken' text
ChecksUnlocked g U s sees taken taken' lost lost' (Err fault.Output) = (text : List ℕ) × IsCheckText g U s sees text × (why : StreamFault) × IsDelivered taken lost taken' lost' text (Err why)
ChecksUnlocked g U s sees taken taken' lost lost' (Err (fault.Open f)) = (taken' ≡ taken) × (lost' ≡ lost) × RefusesOpening g U s f
ChecksUnlocked g U s sees taken taken' lost lost' (Err (fault.Archive f)) = (taken' ≡ taken) × (lost' ≡ lost) × IsReadFault f
ChecksUnlocked g U s sees taken taken' lost lost' (Err (fault.Look f)) = (taken' ≡ taken) × (lost' ≡ lost) × (sees ≡ true)
ChecksUnlocked g U s sees taken taken' lost lost' (Err (fault.Reopen f)) = (taken' ≡ taken) × (lost' ≡ lost) × (sees ≡ true) × RefusesAgain g U s f

-- The result for a case: if it is there at the next look, this is the finding on its image.
abbrev pub IsSeen : {S : Type 0} → shared.Ghosts S → S → ℕ → Verdict → Type 0
IsSeen g s seq verdict = Meanwhile g s (λ x ys. HasOne (last_state x ys) seq → IsVerdictOf x seq verdict)

-- The contents of an open archive, and the findings on its images if they are asked for.
pub record Holds {S : Type 0} {D : Type 0} (g : shared.Ghosts S) (U : disk.Ghosts D) (s : S) (a : Parts D) (sees : Bool) (f : Findings) : Type 0 where
  pub version : f.version ≡ (state_of a).version
  pub count : f.count ≡ length (state_of a).cases
  pub free : FreeReply (state_of a) (Ok f.space)
  pub cases : AreSeen (IsRead g U s a) (cases_seen (state_of a) sees) f.cases.items

-- the same for the archive that the last look saw, or why nobody can say
abbrev pub Examines : {S : Type 0} (g : shared.Ghosts S) → disk.Ghosts (Unlocked S g) → S → Bool → Result Findings UnlockedCheckFault → Type 0
Examines {S} g U s sees (Ok f) =
    (d : Unlocked S g) × (under d ≡ s) × Meanwhile g s (λ x ys. IsTrue (U.is_honest d)) × (a : Parts (Unlocked S g)) × OpenCall U 0 d (Ok a)
    × Holds g U s a sees f × AreSeen (IsSeen g s) (cases_seen (state_of a) sees) f.cases.items
Examines g U s sees (Err (fault.Open f)) = RefusesOpening g U s f
Examines g U s sees (Err (fault.Archive f)) = IsReadFault f
Examines g U s sees (Err _) = ⊥

-- the line about a case, if these numbers are there
abbrev pub settled : (ℕ → Bool) → SeenCase → ToldCase
settled there c = record { seq = c.seq; verdict = if there c.seq then Some c.verdict else None }

-- At the next look a case of this number is there, or none is.
abbrev pub IsSettled : {S : Type 0} → shared.Ghosts S → S → ℕ → Verdict → Option Verdict → Type 0
IsSettled g s seq verdict (Some v) = (v ≡ verdict) × Meanwhile g s (λ x ys. HasOne (last_state x ys) seq)
IsSettled g s seq verdict None = Meanwhile g s (λ x ys. HasNone (last_state x ys) seq)

-- so it is of each of these cases
abbrev pub AreSettled : {S : Type 0} → shared.Ghosts S → S → List SeenCase → List ToldCase → Type 0
AreSettled g s [] [] = Unit {0}
AreSettled g s (c ∷ cs) (t ∷ ts) = (t.seq ≡ c.seq) × IsSettled g s c.seq c.verdict t.verdict × AreSettled g s cs ts
AreSettled g s _ _ = ⊥

-- The archive is looked at again, if there are cases: which of them are there by then, or why nobody can say.
abbrev pub LooksBack : {S : Type 0} (g : shared.Ghosts S) → disk.Ghosts (Unlocked S g) → S → List SeenCase → Result (Vec ToldCase Global) UnlockedCheckFault → Type 0
LooksBack g U s cases (Ok told) = AreSettled g s cases told.items
LooksBack g U s cases (Err (fault.Archive f)) = f ≡ OutOfMemory
LooksBack g U s cases (Err (fault.Look f)) = 0 < length cases
LooksBack g U s cases (Err (fault.Reopen f)) = (0 < length cases) × RefusesAgain g U s f
LooksBack g U s cases (Err _) = ⊥

-- the line of a case
abbrev pub told_words : ℕ → Option Verdict → List ℕ
told_words seq None = gone_line seq
told_words seq (Some verdict) = verdict_line seq verdict

abbrev pub told_line : ToldCase → List ℕ
told_line c = told_words c.seq c.verdict

-- the lines of the findings
abbrev pub report_text : Findings → List ToldCase → List ℕ
report_text f cases = facts_lines f.version f.count f.space ++ (flat_map told_line cases ++ codes "sound\n")

-- That goes to an output: it takes all of it, or a front of it until a write fails.
abbrev pub Reports : Findings → List ToldCase → Option (List ℕ) → Option (List ℕ) → ℕ → ℕ → Result (Unit {0}) UnlockedCheckFault → Type 0
Reports f cases taken taken' lost lost' (Ok u) = Appends taken taken' (report_text f cases)
Reports f cases taken taken' lost lost' (Err fault.Output) = (why : StreamFault) × IsDelivered taken lost taken' lost' (report_text f cases) (Err why)
Reports f cases taken taken' lost lost' (Err _) = ⊥
