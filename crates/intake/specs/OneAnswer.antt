-- The answer of a call, and the state that it leaves, are functions of the state before it, unless memory runs out or the disk fails.
use Rattle.std.specs.Prelude.{◌≡◌, ℕ, Bool, List, Result, Ok, Err}
use Rattle.intake.specs.State.{ArchiveState, StreamFacts}
use Rattle.intake.specs.Step.{BeginStep, AbandonStep, FinishStep, DeleteStep, PinStep, LabelStep, UpgradeStep, RetireStep, FillsBlocks}
use Rattle.intake.specs.declared.faults.ArchiveFault.{ArchiveFault}
use Rattle.intake.specs.declared.faults.ArchiveFault.TheVariants.{OutOfMemory, Disk}
use Rattle.retention.specs.declared.Decision.{Decision}
use Rattle.retention.specs.declared.Policy.{Policy}

-- the answer is not that there is no memory, or that the disk failed
abbrev pub IsDecided : {T : Type 0} → Result T ArchiveFault → Type 0
IsDecided (Ok x) = Unit {0}
IsDecided (Err OutOfMemory) = ⊥
IsDecided (Err Disk) = ⊥
IsDecided (Err _) = Unit {0}

-- a call that does this to a state answers one thing and leaves one state
abbrev pub IsOneAnswer : {T : Type 0} → (Result T ArchiveFault → ArchiveState → Type 0) → Type 0
IsOneAnswer {T} Does = (r r' : Result T ArchiveFault) (new new' : ArchiveState) → Does r new → Does r' new' → IsDecided r → IsDecided r' → (r' ≡ r) × (new' ≡ new)

-- the decision of a retirement: the cases that it drops, and whether the limits are not met
abbrev pub decision_said : Result Decision ArchiveFault → Result (List ℕ × Bool) ArchiveFault
decision_said (Ok d) = Ok (d.dropped.items, d.unmet)
decision_said (Err f) = Err f

abbrev pub RetiresSo : ArchiveState → Policy → Result (List ℕ × Bool) ArchiveFault → ArchiveState → Type 0
RetiresSo s policy r new = (d : Result Decision ArchiveFault) × RetireStep s policy d new × (r ≡ decision_said d)

abbrev pub BeginsOneWay : Type 0
BeginsOneWay = (s : ArchiveState) (slot : ℕ) (stream : StreamFacts) → IsOneAnswer (BeginStep s slot stream)

abbrev pub AbandonsOneWay : Type 0
AbandonsOneWay = (s : ArchiveState) (slot : ℕ) → IsOneAnswer (AbandonStep s slot)

abbrev pub FinishesOneWay : Type 0
FinishesOneWay = (s : ArchiveState) (slot : ℕ) → IsOneAnswer (FinishStep s slot)

abbrev pub DeletesOneWay : Type 0
DeletesOneWay = (s : ArchiveState) (seq : ℕ) → IsOneAnswer (DeleteStep s seq)

abbrev pub PinsOneWay : Type 0
PinsOneWay = (s : ArchiveState) (seq : ℕ) (flag : Bool) → IsOneAnswer (PinStep s seq flag)

abbrev pub LabelsOneWay : Type 0
LabelsOneWay = (s : ArchiveState) (seq : ℕ) (text : List ℕ) → IsOneAnswer (LabelStep s seq text)

abbrev pub UpgradesOneWay : Type 0
UpgradesOneWay = (s : ArchiveState) → IsOneAnswer (UpgradeStep s)

abbrev pub RetiresOneWay : Type 0
RetiresOneWay = (s : ArchiveState) (policy : Policy) → IsOneAnswer (RetiresSo s policy)

-- The blocks that a stream fills are the ones that are free then, the lowest first: there is one list of them.
abbrev pub FillsOneWay : Type 0
FillsOneWay = (s : ArchiveState) (slot : ℕ) (stream : StreamFacts) (total : ℕ) (blocks blocks' : List ℕ) → FillsBlocks s slot stream total blocks → FillsBlocks s slot stream total blocks' → blocks' ≡ blocks
