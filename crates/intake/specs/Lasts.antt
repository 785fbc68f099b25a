-- The effect of each call on the durable part of the archive: its cases with their images, and the next number.
use Rattle.std.specs.Prelude.{◌≡◌, ◌≢◌, ◌⊎◌, ℕ, Bool, List, [], ◌∷◌, Result, Ok, Err, IsTrue}
use Rattle.std.specs.List.{All}
use Rattle.disk_model.specs.Moments.{AddsOnly}
use Rattle.disk_model.specs.declared.disk.Disk as disk
use Rattle.intake.specs.Calls.{FinishCall, DeleteCall, PinCall, LabelCall, UpgradeCall, RetireCall}
use Rattle.intake.specs.Durable.{Durable, StandsFor, durable_of, without, flagged, labelled, upgraded}
use Rattle.intake.specs.Guarding.{MayBeStored}
use Rattle.intake.specs.Lasting.{HasEmptyLabel}
use Rattle.intake.specs.Parts.{Parts, state_of, contents_of}
use Rattle.intake.specs.Step.{HasCase}
use Rattle.intake.specs.declared.faults.ArchiveFault.{ArchiveFault}
use Rattle.retention.specs.declared.Decision.{Decision}
use Rattle.retention.specs.declared.Policy.{Policy}
use Rattle.journal_layout.specs.Case.{Case}

-- a finish adds one case, the stream's, with the bytes that it took as its image
abbrev pub FinishLasts : {D : Type 0} → disk.Ghosts D → Type 0
FinishLasts {D} g = (old new : Parts D) (slot seq : ℕ) → IsTrue (g.is_honest old.disk) → FinishCall g old slot (Ok seq) new
    → MayBeStored (state_of old) (contents_of g.seen old) (durable_of g.seen old) slot (durable_of g.seen new)

-- a deletion takes the one case away, and changes no other
abbrev pub DeleteLasts : {D : Type 0} → disk.Ghosts D → Type 0
DeleteLasts {D} g = (old new : Parts D) (seq : ℕ) (u : Unit {0}) → IsTrue (g.is_honest old.disk) → DeleteCall g old seq (Ok u) new
    → durable_of g.seen new ≡ without (durable_of g.seen old) (seq ∷ [])

-- a pin sets the flag of the one case, and changes no other; nothing changes exactly if the flag is set already
abbrev pub PinLasts : {D : Type 0} → disk.Ghosts D → Type 0
PinLasts {D} g = (old new : Parts D) (seq : ℕ) (flag : Bool) (u : Unit {0}) → IsTrue (g.is_honest old.disk) → PinCall g old seq flag (Ok u) new
    → (c : Case) × HasCase (state_of old) seq c
    × (((c.pinned ≡ flag) × (durable_of g.seen new ≡ durable_of g.seen old)) ⊎ ((c.pinned ≢ flag) × (durable_of g.seen new ≡ flagged (durable_of g.seen old) seq flag)))

-- a label sets the label of the one case, and changes no other; nothing changes exactly if the case has that label already
abbrev pub LabelLasts : {D : Type 0} → disk.Ghosts D → Type 0
LabelLasts {D} g = (old new : Parts D) (seq : ℕ) (text : List ℕ) (u : Unit {0}) → IsTrue (g.is_honest old.disk) → LabelCall g old seq text (Ok u) new
    → (c : Case) × HasCase (state_of old) seq c
    × (((c.label ≡ text) × (durable_of g.seen new ≡ durable_of g.seen old)) ⊎ ((c.label ≢ text) × (durable_of g.seen new ≡ labelled (durable_of g.seen old) seq text)))

-- an upgrade leaves the same cases and next number in version 2; if the archive has that version nothing changes
abbrev pub UpgradeLasts : {D : Type 0} → disk.Ghosts D → Type 0
UpgradeLasts {D} g = (old new : Parts D) (u : Unit {0}) → IsTrue (g.is_honest old.disk) → UpgradeCall g old (Ok u) new
    → durable_of g.seen new ≡ upgraded (durable_of g.seen old)

-- the same cases and next number in version 1 or 2, and no case has a label
pub record IsUpgradeOf (old x : Durable) : Type 0 where
  pub cases : x.cases ≡ old.cases
  pub next : x.next ≡ old.next
  pub version : (x.version ≡ 1) ⊎ (x.version ≡ 2)
  pub labels : All HasEmptyLabel x.cases

-- A crash at any moment of an upgrade of version 1, however it is answered, leaves a disk that one before could have left, or the same
-- cases and next number in version 1 or 2, each label empty.
abbrev pub AnUpgradeLeavesTheCases : {D : Type 0} → disk.Ghosts D → Type 0
AnUpgradeLeavesTheCases {D} g = (old new : Parts D) (r : Result (Unit {0}) ArchiveFault) → IsTrue (g.is_honest old.disk) → (state_of old).version ≡ 1
    → ((c : List ℕ) → g.may_leave old.disk c → StandsFor c (durable_of g.seen old)) → UpgradeCall g old r new
    → AddsOnly g old.disk new.disk (λ c. (x : Durable) × StandsFor c x × IsUpgradeOf (durable_of g.seen old) x)

-- a retirement takes the cases away that it answers, and changes no other
abbrev pub RetireLasts : {D : Type 0} → disk.Ghosts D → Type 0
RetireLasts {D} g = (old new : Parts D) (policy : Policy) (d : Decision) → IsTrue (g.is_honest old.disk) → RetireCall g old policy (Ok d) new
    → durable_of g.seen new ≡ without (durable_of g.seen old) d.dropped.items

-- A call that is refused changes nothing of it. If the disk failed, a stop may still leave the cases that the call would have left
-- (`Changes`).
abbrev pub RefusalsLast : {D : Type 0} → disk.Ghosts D → Type 0
RefusalsLast {D} g = (old new : Parts D) (f : ArchiveFault) → IsTrue (g.is_honest old.disk)
    → ((slot : ℕ) × FinishCall g old slot (Err f) new) ⊎ (((seq : ℕ) × DeleteCall g old seq (Err f) new)
    ⊎ (((seq : ℕ) × (flag : Bool) × PinCall g old seq flag (Err f) new) ⊎ (((policy : Policy) × RetireCall g old policy (Err f) new)
    ⊎ (((seq : ℕ) × (text : List ℕ) × LabelCall g old seq text (Err f) new) ⊎ UpgradeCall g old (Err f) new))))
    → durable_of g.seen new ≡ durable_of g.seen old
