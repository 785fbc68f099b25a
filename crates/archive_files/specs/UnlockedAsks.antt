-- A question that is answered between two looks at its disk.
use Rattle.std.specs.Prelude.{◌≡◌, ℕ, Bool, List, [], Option, Result, Ok, Err, IsTrue}
use Rattle.disk_model.specs.declared.disk.Disk as disk
use Rattle.inspector_cli.specs.Asking.{AsksAlone, line_streams}
use Rattle.inspector_cli.specs.Life.{LifeEnds}
use Rattle.inspector_cli.specs.declared.session.LifeFault.{LifeFault}
use Rattle.intake.specs.Durable.{Durable, StandsFor}
use Rattle.intake.specs.InTurn.{last_state}
use Rattle.intake.specs.declared.faults.ArchiveFault.TheVariants.{OutOfMemory}
use Rattle.script_lines.specs.Said.{Said}
use Rattle.shared_disk.specs.Looks.{under}
use Rattle.shared_disk.specs.Meanwhile.{EndsWith}
use Rattle.shared_disk.specs.declared.shared.SharedDisk as shared
use Rattle.shared_disk.specs.declared.unlocked.Unlocked.{Unlocked}
use Rattle.archive_files.specs.UnlockedCopies.{Meanwhile}
use Rattle.archive_files.specs.History.{HasEach, HasNone, HasOne, IsOneOf}
use Rattle.archive_files.specs.Opening.{RefusesAgain, RefusesOpening}
use Rattle.archive_files.specs.declared.unlocked_faults.AskFault.{AskFault}
use Rattle.archive_files.specs.declared.unlocked_faults.AskFault.TheVariants as fault

-- One question is answered over this disk, as `open_and_ask` answers it.
abbrev pub AnswersOver : {D : Type 0} → disk.Ghosts D → Said → Option (List ℕ) → Option (List ℕ) → ℕ → ℕ → D → Result Bool LifeFault → Type 0
AnswersOver {D} g what taken taken' lost lost' before r =
    (after : D) × LifeEnds g 0 (line_streams [] r taken taken' lost lost') before r after (AsksAlone g what taken taken')

-- one question is answered over the archive that the last look saw
abbrev pub AnswersSeen : {S : Type 0} (g : shared.Ghosts S) → disk.Ghosts (Unlocked S g) → S → Said → Option (List ℕ) → Option (List ℕ) → ℕ → ℕ → Result Bool LifeFault → Type 0
AnswersSeen {S} g U s what taken taken' lost lost' r = (d : Unlocked S g) × (under d ≡ s) × AnswersOver U what taken taken' lost lost' d r

-- the same of one whose reply is to be dropped
abbrev pub AnswersInVain : {S : Type 0} (g : shared.Ghosts S) → disk.Ghosts (Unlocked S g) → S → Said → Option (List ℕ) → Option (List ℕ) → ℕ → ℕ → Type 0
AnswersInVain {S} g U s what taken taken' lost lost' = (done : Bool) × AnswersSeen g U s what taken taken' lost lost' (Ok done)

-- The promises of the question about a disk hold: that disk gives the bytes that the look saw, and is honest whenever the disk that others
-- change is and holds an archive all the time. Each refusal has its reason. `Gone` says that a case was there at the look, and not at the next.
abbrev pub AsksUnlocked : {S : Type 0} (g : shared.Ghosts S) → disk.Ghosts (Unlocked S g) → S → Said → Option (List ℕ) → Option (List ℕ) → ℕ → ℕ → Result Bool AskFault → Type 0
AsksUnlocked {S} g U s what taken taken' lost lost' (Ok done) =
    (d : Unlocked S g) × (under d ≡ s) × AnswersOver U what taken taken' lost lost' d (Ok done) × Meanwhile g s (λ x ys. IsTrue (U.is_honest d))
AsksUnlocked g U s what taken taken' lost lost' (Err (fault.Life f)) = AnswersSeen g U s what taken taken' lost lost' (Err f)
AsksUnlocked g U s what taken taken' lost lost' (Err (fault.Open f)) = (taken' ≡ taken) × (lost' ≡ lost) × RefusesOpening g U s f
AsksUnlocked g U s what taken taken' lost lost' (Err (fault.Archive f)) = (taken' ≡ taken) × (lost' ≡ lost) × (f ≡ OutOfMemory)
AsksUnlocked g U s what taken taken' lost lost' (Err (fault.Look f)) = AnswersInVain g U s what taken taken' lost lost'
AsksUnlocked g U s what taken taken' lost lost' (Err (fault.Reopen f)) = AnswersInVain g U s what taken taken' lost lost' × RefusesAgain g U s f
AsksUnlocked g U s what taken taken' lost lost' (Err fault.Gone) =
    AnswersInVain g U s what taken taken' lost lost' × Meanwhile g s (λ x ys. (n : ℕ) × HasOne x n × HasNone (last_state x ys) n)

-- At the next look all cases of these numbers are there, or one of them is not, or nobody can say.
abbrev pub LeavesAllThere : {S : Type 0} (g : shared.Ghosts S) → disk.Ghosts (Unlocked S g) → S → List ℕ → Result (Unit {0}) AskFault → Type 0
LeavesAllThere g U s numbers (Ok u) = IsTrue (g.is_honest s) → (b : List ℕ) × EndsWith (g.meanwhile s) b × ((z : Durable) → StandsFor b z → HasEach z numbers)
LeavesAllThere g U s numbers (Err (fault.Look f)) = Unit {0}
LeavesAllThere g U s numbers (Err (fault.Reopen f)) = RefusesAgain g U s f
LeavesAllThere g U s numbers (Err fault.Gone) = (n : ℕ) × IsOneOf numbers n × (IsTrue (g.is_honest s) → (b : List ℕ) × EndsWith (g.meanwhile s) b × ((z : Durable) → StandsFor b z → HasNone z n))
LeavesAllThere g U s numbers (Err _) = ⊥
