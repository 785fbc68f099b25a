-- The answer of a check of the archive on a disk.
use Rattle.std.specs.Prelude.{◌≡◌, ◌⊎◌, ℕ, ◌/◌, Bool, true, false, List, [], ◌∷◌, ◌++◌, length, Option, Result, Ok, Err, Vec, codes}
use Rattle.std.specs.Global.{Global}
use Rattle.case_journal.specs.Viewing.{OnlyReads}
use Rattle.disk_model.specs.declared.disk.Disk as disk
use Rattle.intake.specs.Calls.{ImageCall, OpenCall}
use Rattle.intake.specs.Parts.{Parts, state_of}
use Rattle.intake.specs.State.{ArchiveState}
use Rattle.intake.specs.Step.{FreeReply}
use Rattle.intake.specs.declared.faults.ArchiveFault.{ArchiveFault}
use Rattle.intake.specs.declared.space.Space.{Space}
use Rattle.journal_layout.specs.Case.{Case}
use Rattle.journal_layout.specs.declared.entry.Kind.{Kind}
use Rattle.journal_layout.specs.declared.faults.OpenFault.{OpenFault}
use Rattle.journal_layout.specs.declared.faults.OpenFault.TheVariants.{Damaged}
use Rattle.script_streams.specs.Printing.{IsDelivered}
use Rattle.script_streams.specs.declared.streams.StreamFault.{StreamFault}
use Rattle.archive_checks.specs.Texts.{facts_lines, place_line}
use Rattle.archive_checks.specs.Verdicts.{image_line}
use Rattle.archive_checks.specs.declared.checking.CheckFault.{CheckFault}
use Rattle.archive_checks.specs.declared.checking.CheckFault.TheVariants.{Open, Archive, Output}
use Rattle.archive_checks.specs.declared.lines.Place.{Place}

-- a case's number and kind
abbrev pub case_words : Case → ℕ × Kind
case_words c = (c.seq, c.origin.kind)

-- the line of a case whose image was read, or nothing
abbrev pub ImageTold : Case → Result (Vec ℕ Global) ArchiveFault → List ℕ → Result (Unit {0}) ArchiveFault → Type 0
ImageTold c (Ok image) text r = (text ≡ image_line c.seq c.origin.kind image.items) × (r ≡ Ok tt)
ImageTold c (Err f) text r = (text ≡ []) × (r ≡ Err f)

-- A case's image is read, and its line printed; or it can't be read.
abbrev pub PrintsImage : {D : Type 0} → disk.Ghosts D → Parts D → Case → List ℕ → Result (Unit {0}) ArchiveFault → Parts D → Type 0
PrintsImage g old c text r new = (image : Result (Vec ℕ Global) ArchiveFault) × ImageCall g old c.seq image new × ImageTold c image text r

-- The lines after one image: those of the others, or the end, if it can't be read.
abbrev pub PrintsThen : {D : Type 0} → (List ℕ → Type 0) → List ℕ → Parts D → List ℕ → Result (Unit {0}) ArchiveFault → Parts D → Result (Unit {0}) ArchiveFault → Type 0
PrintsThen Others one mid text r new (Ok u) = (rest : List ℕ) × (text ≡ one ++ rest) × Others rest
PrintsThen Others one mid text r new (Err f) = (text ≡ one) × (r ≡ Err f) × (new ≡ mid)

-- The images of these cases are read one after another, and the line of each is printed, up to the first that can't be read.
abbrev pub PrintsImages : {D : Type 0} → disk.Ghosts D → Parts D → List Case → List ℕ → Result (Unit {0}) ArchiveFault → Parts D → Type 0
PrintsImages g old [] text r new = (text ≡ []) × (r ≡ Ok tt) × (new ≡ old)
PrintsImages {D} g old (c ∷ cs) text r new =
    (one : List ℕ) × (first : Result (Unit {0}) ArchiveFault) × (mid : Parts D) × PrintsImage g old c one first mid
    × PrintsThen (λ rest. PrintsImages g mid cs rest r new) one mid text r new first

-- the cases whose images are read
abbrev pub cases_seen : ArchiveState → Bool → List Case
cases_seen s true = s.cases
cases_seen s false = []

-- `sound`, if all could be read
abbrev pub sound_if : Result (Unit {0}) ArchiveFault → List ℕ
sound_if (Ok u) = codes "sound\n"
sound_if (Err f) = []

-- The content of an open archive, the images if they are asked for, and `sound`.
abbrev pub PrintsHoldings : {D : Type 0} → disk.Ghosts D → Parts D → Bool → List ℕ → Result (Unit {0}) ArchiveFault → Parts D → Type 0
PrintsHoldings g old sees text r new =
    (space : Space) × (images : List ℕ) × FreeReply (state_of old) (Ok space) × PrintsImages g old (cases_seen (state_of old) sees) images r new
    × (text ≡ facts_lines (state_of old).version (length (state_of old).cases) space ++ (images ++ sound_if r))

-- the answer, if all of the text was written, and if not
abbrev pub check_end : Result (Unit {0}) StreamFault → Result (Unit {0}) ArchiveFault → Result (Unit {0}) CheckFault
check_end (Err fault) told = Err Output
check_end (Ok u) (Ok v) = Ok v
check_end (Ok u) (Err f) = Err (Archive f)

-- That goes to an output that had taken `before`: it takes all of it, or a front of it until a write fails.
abbrev pub ToldOf : {D : Type 0} → disk.Ghosts D → Parts D → Bool → Option (List ℕ) → Option (List ℕ) → ℕ → ℕ → Result (Unit {0}) CheckFault → Parts D → Type 0
ToldOf g old sees before after count count' r new =
    (text : List ℕ) × (told : Result (Unit {0}) ArchiveFault) × (sent : Result (Unit {0}) StreamFault)
    × PrintsHoldings g old sees text told new × IsDelivered before count after count' text sent × (r ≡ check_end sent told)

-- The archive opens, and its content is printed. The disk is only read then.
abbrev pub OpensAndTells : {D : Type 0} → disk.Ghosts D → Bool → Option (List ℕ) → Option (List ℕ) → ℕ → ℕ → D → Result (Unit {0}) CheckFault → D → Type 0
OpensAndTells {D} g sees before after count count' disk r disk' =
    (opened : Parts D) × (new : Parts D) × OpenCall g 0 disk (Ok opened) × ToldOf g opened sees before after count count' r new × (disk' ≡ new.disk) × OnlyReads g opened.disk disk'

-- the block of the first bad field, and in words the part that it belongs to; or nothing
abbrev pub IsDamageLine : OpenFault → List ℕ → Type 0
IsDamageLine (Damaged at field) text = (text ≡ []) ⊎ ((place : Place) × (text ≡ place_line (at / 4096) place))
IsDamageLine fault text = text ≡ []

-- Its opening is refused with this fault, and the place of the damage is printed. The disk is only read then.
abbrev pub RefusedAndTells : {D : Type 0} → disk.Ghosts D → Option (List ℕ) → Option (List ℕ) → ℕ → ℕ → D → OpenFault → D → Type 0
RefusedAndTells {D} g before after count count' disk fault disk' =
    (mid : D) × OpenCall g 0 disk (Err (fault, mid)) × OnlyReads g mid disk'
    × (text : List ℕ) × (sent : Result (Unit {0}) StreamFault) × IsDamageLine fault text × IsDelivered before count after count' text sent

-- the lines that are printed, by the answer
abbrev pub ChecksOnDisk : {D : Type 0} → disk.Ghosts D → Bool → Option (List ℕ) → Option (List ℕ) → ℕ → ℕ → D → Result (Unit {0}) CheckFault → D → Type 0
ChecksOnDisk g sees before after count count' disk (Err (Open fault)) disk' = RefusedAndTells g before after count count' disk fault disk'
ChecksOnDisk g sees before after count count' disk r disk' = OpensAndTells g sees before after count count' disk r disk'
