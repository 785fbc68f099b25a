-- An archive over many stops, and the consequences for one case and for the numbers of the cases.
use Rattle.std.specs.Prelude.{◌≡◌, ◌⊎◌, ℕ, ◌<◌, ◌≤◌, false, List, [], ◌∷◌, Result, Ok, IsErr, IsTrue}
use Rattle.std.specs.List.{AllByRecursion}
use Rattle.disk_model.specs.Anew.{IsMadeAnew, Restarts}
use Rattle.disk_model.specs.declared.disk.Disk as disk
use Rattle.journal_layout.specs.declared.faults.OpenFault.{OpenFault}
use Rattle.intake.specs.Calls.{OpenCall, FinishCall, CloseCall}
use Rattle.intake.specs.Durable.{Durable, FoundCase, StandsFor, FindsAgain, durable_of}
use Rattle.intake.specs.Marks.{Mark, IsMarkSettled, IsRunOfMarks, HasOne, last_of, mark_of}
use Rattle.intake.specs.Opened.{disk_in}
use Rattle.intake.specs.Parts.{Parts}

-- One life of an archive, from its opening to a stop: a mark after each call that was answered; of these the first ones
-- are acknowledged when the machine stops.
pub record Life (D : Type 0) : Type 0 where
  pub first : Mark D
  pub acknowledged : List (Mark D)
  pub later : List (Mark D)

-- the last mark that is acknowledged
abbrev pub last_acknowledged : {D : Type 0} → Life D → Mark D
last_acknowledged l = last_of l.first l.acknowledged

-- calls on an honest disk, from an opening on
pub record IsLived {D : Type 0} (g : disk.Ghosts D) (l : Life D) : Type 0 where
  pub honest : IsTrue (g.is_honest l.first.disk)
  pub settled : IsMarkSettled g l.first
  pub before : IsRunOfMarks g l.first l.acknowledged
  pub after : IsRunOfMarks g (last_acknowledged l) l.later

-- An opening that began no life: its answer, and the disk that the next one is tried on.
pub record Attempt (D : Type 0) : Type 0 where
  pub limit : ℕ
  pub answer : Result (Parts D) (OpenFault × D)
  pub next : D

-- It was refused, and the next one is tried on the disk that it handed back; or on a disk that is made anew from its file; or the
-- machine stopped within it or after it, and the disk restarts.
abbrev pub IsTried : {D : Type 0} → disk.Ghosts D → D → Attempt D → Type 0
IsTried g d t =
    OpenCall g t.limit d t.answer
    × ((IsErr t.answer × (t.next ≡ disk_in t.answer)) ⊎ IsMadeAnew g (disk_in t.answer) t.next ⊎ ((left : List ℕ) × g.left_since (disk_in t.answer) (g.clock d) left × Restarts g left t.next))

abbrev pub AreTried : {D : Type 0} → disk.Ghosts D → D → List (Attempt D) → Type 0
AreTried g d [] = Unit {0}
AreTried g d (t ∷ ts) = IsTried g d t × AreTried g t.next ts

-- the disk after them
abbrev pub disk_after : {D : Type 0} → D → List (Attempt D) → D
disk_after d [] = d
disk_after d (t ∷ ts) = disk_after t.next ts

-- The bytes that a life leaves: the machine stops at any moment since the last acknowledgement; or the process ends, perhaps after a disk
-- fault, and the next opening reads from the file one of the lists that a crash then could leave.
abbrev pub IsLeftBy : {D : Type 0} → disk.Ghosts D → Life D → List ℕ → Type 0
IsLeftBy g l left =
    g.left_since (last_of (last_acknowledged l) l.later).disk (g.clock (last_acknowledged l).disk) left ⊎ g.may_leave (last_of (last_acknowledged l) l.later).disk left

-- The machine stops, or the process ends. Openings may fail then, and stops within openings, as many as
-- there are; the next life begins with the archive that an opening answers at last, and nothing is in doubt there.
pub record IsFollowed {D : Type 0} (g : disk.Ghosts D) (l next : Life D) : Type 0 where
  pub left : List ℕ
  pub ends : IsLeftBy g l left
  pub disk : D
  pub restarts : Restarts g left disk
  pub attempts : List (Attempt D)
  pub tried : AreTried g disk attempts
  pub limit : ℕ
  pub archive : Parts D
  pub opening : OpenCall g limit (disk_after disk attempts) (Ok archive)
  pub first : next.first ≡ mark_of g.seen archive []

abbrev pub AreLived : {D : Type 0} → disk.Ghosts D → Life D → List (Life D) → Type 0
AreLived g l [] = IsLived g l
AreLived g l (n ∷ ns) = IsLived g l × IsFollowed g l n × AreLived g n ns

-- each life begins with the cases of the last acknowledged mark of the life before, or of a later mark
abbrev pub AreKept : {D : Type 0} → Life D → List (Life D) → Type 0
AreKept l [] = Unit {0}
AreKept l (n ∷ ns) = HasOne (last_acknowledged l) l.later n.first.durable × AreKept n ns

-- A process that ends without a stop of the machine leaves nothing that a stop could not have left.
abbrev pub AReopeningIsAStop : {D : Type 0} → disk.Ghosts D → Type 0
AReopeningIsAStop {D} g = (l : Life D) (left : List ℕ) → IsLived g l → IsLeftBy g l left → g.left_since (last_of (last_acknowledged l) l.later).disk (g.clock (last_acknowledged l).disk) left

-- Whatever bytes a stop leaves of a life, they encode the cases of its last acknowledged mark, or of a later one.
abbrev pub KeptOverAStop : {D : Type 0} → disk.Ghosts D → Type 0
KeptOverAStop {D} g = (l : Life D) (left : List ℕ) (x : Durable) → IsLived g l → g.left_since (last_of (last_acknowledged l) l.later).disk (g.clock (last_acknowledged l).disk) left
    → StandsFor left x → HasOne (last_acknowledged l) l.later x

abbrev pub KeptOverManyStops : {D : Type 0} → disk.Ghosts D → Type 0
KeptOverManyStops {D} g = (l : Life D) (ls : List (Life D)) → AreLived g l ls → AreKept l ls

-- the case is among these
abbrev pub IsAmong : List FoundCase → FoundCase → Type 0
IsAmong [] c = ⊥
IsAmong (d ∷ ds) c = (c ≡ d) ⊎ IsAmong ds c

-- all that a mark has holds the case
abbrev pub HoldsCase : {D : Type 0} → FoundCase → Mark D → Type 0
HoldsCase c m = IsAmong m.durable.cases c × AllByRecursion (λ (x : Durable). IsAmong x.cases c) m.in_doubt

abbrev pub AllHoldCase : {D : Type 0} → FoundCase → Mark D → List (Mark D) → Type 0
AllHoldCase c m [] = HoldsCase c m
AllHoldCase c m (n ∷ ns) = HoldsCase c m × AllHoldCase c n ns

-- A case that is there at a mark and that no later call drops is found after a stop, with its image.
abbrev pub ACaseIsFound : {D : Type 0} → disk.Ghosts D → Type 0
ACaseIsFound {D} g = (m : Mark D) (ns : List (Mark D)) (c : FoundCase) (left : List ℕ) (x : Durable) → IsTrue (g.is_honest m.disk) → IsMarkSettled g m → IsRunOfMarks g m ns
    → AllHoldCase c m ns → g.left_since (last_of m ns).disk (g.clock m.disk) left → StandsFor left x → IsAmong x.cases c

-- The next number that is found is not below that of any mark before the stop at which nothing was in doubt: so no number that
-- was given by then is given again.
abbrev pub NumbersStayGiven : {D : Type 0} → disk.Ghosts D → Type 0
NumbersStayGiven {D} g = (m : Mark D) (ns : List (Mark D)) (left : List ℕ) (x : Durable) → IsTrue (g.is_honest m.disk) → IsMarkSettled g m → IsRunOfMarks g m ns → m.in_doubt ≡ []
    → g.left_since (last_of m ns).disk (g.clock m.disk) left → StandsFor left x → m.durable.next ≤ x.next

-- the mark is the first of a run or a later one
abbrev pub IsReached : {D : Type 0} → Mark D → Mark D → List (Mark D) → Type 0
IsReached m first [] = m ≡ first
IsReached m first (n ∷ ns) = (m ≡ first) ⊎ IsReached m n ns

-- A number that was given and acknowledged in one life is below the next number that each later life finds: no number is given
-- twice, over however many stops.
abbrev pub NumbersAreGivenOnce : {D : Type 0} → disk.Ghosts D → Type 0
NumbersAreGivenOnce {D} g = (l : Life D) (ls : List (Life D)) (old new : Parts D) (slot seq : ℕ) → AreLived g l ls
    → FinishCall g old slot (Ok seq) new → IsReached (mark_of g.seen new []) l.first l.acknowledged
    → AllByRecursion (λ (n : Life D). seq < n.first.durable.next) ls

-- An archive that is closed, and that no disk fault has stopped, is found again by the next opening, which only the disk and the
-- memory refuse.
abbrev pub WhatIsClosedIsFound : {D : Type 0} → disk.Ghosts D → Type 0
WhatIsClosedIsFound {D} g = (a : Parts D) (d : D) (limit : ℕ) (r : Result (Parts D) (OpenFault × D)) → IsTrue (g.is_honest d) → a.stopped ≡ false
    → CloseCall g a d → OpenCall g limit d r → FindsAgain g.seen r (durable_of g.seen a)
