-- A run of calls as marks: a mark is the state when a call has been answered. The marks show which cases a stop may leave.
use Rattle.std.specs.Prelude.{◌≡◌, ◌⊎◌, ℕ, ◌≤◌, Bool, List, [], ◌∷◌, ◌++◌, Result, Err, IsTrue}
use Rattle.std.specs.List.{AllByRecursion}
use Rattle.disk_model.specs.Moments.{AddsOnly}
use Rattle.disk_model.specs.declared.disk.Disk as disk
use Rattle.intake.specs.Calls.{ChangesNoCase, FinishCall, DeleteCall, PinCall, LabelCall, UpgradeCall, RetireCall}
use Rattle.intake.specs.Durable.{Durable, StandsFor, durable_of, without, flagged, labelled, upgraded}
use Rattle.intake.specs.Guarding.{MayBeStored, MayBeRetired}
use Rattle.intake.specs.Parts.{Parts, state_of, contents_of}
use Rattle.intake.specs.declared.faults.ArchiveFault.{ArchiveFault}
use Rattle.intake.specs.declared.faults.ArchiveFault.TheVariants.{Disk}
use Rattle.retention.specs.declared.Decision.{Decision}
use Rattle.retention.specs.declared.Policy.{Policy}

pub record Mark (D : Type 0) : Type 0 where
  pub disk : D
  -- the cases, the next number and the version
  pub durable : Durable
  -- the cases that a call that answered Disk would have left, now or earlier
  pub in_doubt : List Durable

abbrev pub IsOneOf : List Durable → Durable → Type 0
IsOneOf [] x = ⊥
IsOneOf (y ∷ ys) x = (x ≡ y) ⊎ IsOneOf ys x

-- the cases of the mark, or cases that are in doubt there
abbrev pub Has : {D : Type 0} → Mark D → Durable → Type 0
Has m x = (x ≡ m.durable) ⊎ IsOneOf m.in_doubt x

-- an opening of these bytes finds it
abbrev pub FindsMark : {D : Type 0} → List ℕ → Mark D → Type 0
FindsMark c m = (x : Durable) × StandsFor c x × Has m x

-- a crash at this mark leaves its cases, or cases that are in doubt there
abbrev pub IsMarkSettled : {D : Type 0} → disk.Ghosts D → Mark D → Type 0
IsMarkSettled g m = (c : List ℕ) → g.may_leave m.disk c → FindsMark c m

-- From one mark to the next: a crash meanwhile leaves a disk that one before could have left, or the cases of one of the two.
pub record Passes {D : Type 0} (g : disk.Ghosts D) (old new : Mark D) : Type 0 where
  pub honesty : g.is_honest new.disk ≡ g.is_honest old.disk
  pub crash : IsTrue (g.is_honest old.disk) → AddsOnly g old.disk new.disk (λ c. FindsMark c old ⊎ FindsMark c new)
  pub settled : IsTrue (g.is_honest old.disk) → IsMarkSettled g old → IsMarkSettled g new
  -- the next number never falls, and cases that are newly in doubt have no lower one
  pub number : IsTrue (g.is_honest old.disk) → old.durable.next ≤ new.durable.next
  pub doubts : IsTrue (g.is_honest old.disk) → (x : Durable) → IsOneOf new.in_doubt x → IsOneOf old.in_doubt x ⊎ (old.durable.next ≤ x.next)

-- marks one after the other
abbrev pub IsRunOfMarks : {D : Type 0} → disk.Ghosts D → Mark D → List (Mark D) → Type 0
IsRunOfMarks g m [] = Unit {0}
IsRunOfMarks g m (n ∷ ns) = Passes g m n × IsRunOfMarks g n ns

-- the last mark of a run
abbrev pub last_of : {D : Type 0} → Mark D → List (Mark D) → Mark D
last_of m [] = m
last_of m (n ∷ ns) = last_of n ns

-- one of the marks of a run finds it
abbrev pub FindsOne : {D : Type 0} → List ℕ → Mark D → List (Mark D) → Type 0
FindsOne c m [] = FindsMark c m
FindsOne c m (n ∷ ns) = FindsMark c m ⊎ FindsOne c n ns

-- the cases that a crash since the mark may have left are those of this mark or of a later one
abbrev pub IsFoundFrom : {D : Type 0} → disk.Ghosts D → Mark D → List (Mark D) → Type 0
IsFoundFrom g m ns = (c : List ℕ) → g.left_since (last_of m ns).disk (g.clock m.disk) c → FindsOne c m ns

-- the same for each mark of a run
abbrev pub IsFoundSince : {D : Type 0} → disk.Ghosts D → Mark D → List (Mark D) → Type 0
IsFoundSince g m [] = IsFoundFrom g m []
IsFoundSince g m (n ∷ ns) = IsFoundFrom g m (n ∷ ns) × IsFoundSince g n ns

-- The main law of a run that starts at a settled mark: after a crash at any time since some mark, the cases that are found are those of
-- that mark or of a later one.
abbrev pub FoundAfterAStop : {D : Type 0} → disk.Ghosts D → Type 0
FoundAfterAStop {D} g = (m : Mark D) (ns : List (Mark D)) → IsTrue (g.is_honest m.disk) → IsMarkSettled g m → IsRunOfMarks g m ns → IsFoundSince g m ns

-- A crash since a moment before a run leaves only disks that it could have left before the run, or the cases of one of its marks.
abbrev pub NothingElseIsLeft : {D : Type 0} → disk.Ghosts D → Type 0
NothingElseIsLeft {D} g = (m : Mark D) (ns : List (Mark D)) (t : ℕ) (c : List ℕ) → IsTrue (g.is_honest m.disk) → IsRunOfMarks g m ns → t ≤ g.clock m.disk
    → g.left_since (last_of m ns).disk t c → g.left_since m.disk t c ⊎ FindsOne c m ns

-- one of the marks of a run has it
abbrev pub HasOne : {D : Type 0} → Mark D → List (Mark D) → Durable → Type 0
HasOne m [] x = Has m x
HasOne m (n ∷ ns) x = Has m x ⊎ HasOne n ns x

-- the state of an archive, if these are in doubt
abbrev pub mark_of : {D : Type 0} → (D → List ℕ) → Parts D → List Durable → Mark D
mark_of seen a doubts = record { disk = a.disk; durable = durable_of seen a; in_doubt = doubts }

-- the cases in doubt after an answer: if the disk failed, those that the call would have left
abbrev pub doubted : {T : Type 0} → Result T ArchiveFault → List Durable → List Durable
doubted (Err Disk) more = more
doubted _ more = []

-- A call leads from mark to mark; if the disk failed, the only cases that are newly in doubt are those that it would have left.
abbrev pub LeadsToMark : {D : Type 0} → (T : Type 0) → disk.Ghosts D → Parts D → Result T ArchiveFault → Parts D → (Durable → Type 0) → Type 0
LeadsToMark T g old r new doubt =
    (before : List Durable) → (more : List Durable) × AllByRecursion doubt more × Passes g (mark_of g.seen old before) (mark_of g.seen new (doubted r more ++ before))

-- A call that changes no case leads from mark to mark, and leaves nothing in doubt.
abbrev pub StaysLead : {D : Type 0} → disk.Ghosts D → Type 0
StaysLead {D} g = (old new : Parts D) (before : List Durable) → ChangesNoCase g old new → Passes g (mark_of g.seen old before) (mark_of g.seen new before)

abbrev pub FinishLeads : {D : Type 0} → disk.Ghosts D → Type 0
FinishLeads {D} g = (old new : Parts D) (slot : ℕ) (r : Result ℕ ArchiveFault) → FinishCall g old slot r new
    → LeadsToMark ℕ g old r new (MayBeStored (state_of old) (contents_of g.seen old) (durable_of g.seen old) slot)

abbrev pub DeleteLeads : {D : Type 0} → disk.Ghosts D → Type 0
DeleteLeads {D} g = (old new : Parts D) (seq : ℕ) (r : Result (Unit {0}) ArchiveFault) → DeleteCall g old seq r new
    → LeadsToMark (Unit {0}) g old r new (λ x. x ≡ without (durable_of g.seen old) (seq ∷ []))

abbrev pub PinLeads : {D : Type 0} → disk.Ghosts D → Type 0
PinLeads {D} g = (old new : Parts D) (seq : ℕ) (flag : Bool) (r : Result (Unit {0}) ArchiveFault) → PinCall g old seq flag r new
    → LeadsToMark (Unit {0}) g old r new (λ x. x ≡ flagged (durable_of g.seen old) seq flag)

abbrev pub LabelLeads : {D : Type 0} → disk.Ghosts D → Type 0
LabelLeads {D} g = (old new : Parts D) (seq : ℕ) (text : List ℕ) (r : Result (Unit {0}) ArchiveFault) → LabelCall g old seq text r new
    → LeadsToMark (Unit {0}) g old r new (λ x. x ≡ labelled (durable_of g.seen old) seq text)

abbrev pub UpgradeLeads : {D : Type 0} → disk.Ghosts D → Type 0
UpgradeLeads {D} g = (old new : Parts D) (r : Result (Unit {0}) ArchiveFault) → UpgradeCall g old r new
    → LeadsToMark (Unit {0}) g old r new (λ x. x ≡ upgraded (durable_of g.seen old))

abbrev pub RetireLeads : {D : Type 0} → disk.Ghosts D → Type 0
RetireLeads {D} g = (old new : Parts D) (policy : Policy) (r : Result Decision ArchiveFault) → RetireCall g old policy r new
    → LeadsToMark Decision g old r new (λ x. MayBeRetired (state_of old) policy (durable_of g.seen old) x)
