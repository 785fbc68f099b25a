-- Which answers leave the disk itself as it was.
use Rattle.std.specs.Prelude.{◌≡◌, ◌≢◌, ℕ, ◌+◌, ◌%◌, Bool, List, [], Some, Result, Ok, Err}
use Rattle.intake.specs.Slots.{stream_at}
use Rattle.intake.specs.State.{ArchiveState, StreamFacts}
use Rattle.intake.specs.Step.{HasCase}
use Rattle.intake.specs.declared.faults.ArchiveFault.{ArchiveFault}
use Rattle.intake.specs.declared.faults.ArchiveFault.TheVariants.{Stopped, NoStream, SpaceFull, Disk}
use Rattle.retention.specs.declared.Decision.{Decision}
use Rattle.journal_layout.specs.Case.{Case}

-- every refusal but that of the disk
abbrev pub RefusalSpares : {D : Type 0} {T : Type 0} → Result T ArchiveFault → D → D → Type 0
RefusalSpares (Ok x) old new = Unit {0}
RefusalSpares (Err Disk) old new = Unit {0}
RefusalSpares (Err _) old new = new ≡ old

-- advance: also if the bytes fill no block
abbrev pub AdvanceSpares : {D : Type 0} → ArchiveState → ℕ → ℕ → Result (Unit {0}) ArchiveFault → D → D → Type 0
AdvanceSpares s slot n (Ok u) old new =
    (t : StreamFacts) → stream_at s.streams slot ≡ Some t → (((n ≢ 0) × ((t.len + n) % 4096 ≡ 0)) → ⊥) → new ≡ old
AdvanceSpares s slot n (Err f) old new = RefusalSpares {T = Unit {0}} (Err f) old new

-- finish: the refusals before its seal
abbrev pub FinishSpares : {D : Type 0} → Result ℕ ArchiveFault → D → D → Type 0
FinishSpares (Err Stopped) old new = new ≡ old
FinishSpares (Err NoStream) old new = new ≡ old
FinishSpares (Err SpaceFull) old new = new ≡ old
FinishSpares _ old new = Unit {0}

-- pin: also if the flag is set already
abbrev pub PinSpares : {D : Type 0} → ArchiveState → ℕ → Bool → Result (Unit {0}) ArchiveFault → D → D → Type 0
PinSpares s seq flag (Ok u) old new = (c : Case) → HasCase s seq c → c.pinned ≡ flag → new ≡ old
PinSpares s seq flag (Err f) old new = RefusalSpares {T = Unit {0}} (Err f) old new

-- label: also if the label is set already
abbrev pub LabelSpares : {D : Type 0} → ArchiveState → ℕ → List ℕ → Result (Unit {0}) ArchiveFault → D → D → Type 0
LabelSpares s seq text (Ok u) old new = (c : Case) → HasCase s seq c → c.label ≡ text → new ≡ old
LabelSpares s seq text (Err f) old new = RefusalSpares {T = Unit {0}} (Err f) old new

-- upgrade: also if the archive has version 2
abbrev pub UpgradeSpares : {D : Type 0} → ArchiveState → Result (Unit {0}) ArchiveFault → D → D → Type 0
UpgradeSpares s (Ok u) old new = s.version ≡ 2 → new ≡ old
UpgradeSpares s (Err f) old new = RefusalSpares {T = Unit {0}} (Err f) old new

-- retire: also if no case goes
abbrev pub RetireSpares : {D : Type 0} → Result Decision ArchiveFault → D → D → Type 0
RetireSpares (Ok d) old new = d.dropped.items ≡ [] → new ≡ old
RetireSpares (Err f) old new = RefusalSpares {T = Decision} (Err f) old new
