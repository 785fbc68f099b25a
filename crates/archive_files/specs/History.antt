-- The changes that others make to an archive from one look at its disk to the next.
use Rattle.std.specs.Prelude.{◌≡◌, ◌⊎◌, ℕ, List, [], ◌∷◌}
use Rattle.std.specs.List.{AllByRecursion}
use Rattle.intake.specs.Durable.{Durable, FoundCase}
use Rattle.intake.specs.InTurn.{AreInTurn, IsBetween, StandsAs, last_state}
use Rattle.intake.specs.Lives.{IsAmong}
use Rattle.journal_layout.specs.declared.shape.Shape.{Shape}
use Rattle.shared_disk.specs.Meanwhile.{EndsWith, IsHeld}
use Rattle.shared_disk.specs.declared.shared.SharedDisk as shared

-- The disk holds an archive all the time, of one shape: at the last look x, then one of these, each later than the one before, and
-- at the next look the last of them.
pub record HoldsArchive {S : Type 0} (g : shared.Ghosts S) (s : S) (shape : Shape) (x : Durable) (ys : List Durable) : Type 0 where
  pub first : StandsAs shape (g.looked s) x
  pub turn : AreInTurn x ys
  pub each : (c : List ℕ) → IsHeld (g.meanwhile s) c → (y : Durable) × IsBetween x ys y × StandsAs shape c y
  pub last : (c : List ℕ) → EndsWith (g.meanwhile s) c → StandsAs shape c (last_state x ys)

-- it is a case of this number
abbrev pub IsNumbered : Durable → ℕ → FoundCase → Type 0
IsNumbered x seq c = IsAmong x.cases c × (c.case.seq ≡ seq)

abbrev pub HasNone : Durable → ℕ → Type 0
HasNone x seq = (c : FoundCase) → IsNumbered x seq c → ⊥

-- a case of this number
abbrev pub HasOne : Durable → ℕ → Type 0
HasOne x seq = (c : FoundCase) × IsNumbered x seq c

-- a case of each of these numbers
abbrev pub HasEach : Durable → List ℕ → Type 0
HasEach x numbers = AllByRecursion (HasOne x) numbers

-- it is one of these numbers
abbrev pub IsOneOf : List ℕ → ℕ → Type 0
IsOneOf [] n = ⊥
IsOneOf (k ∷ ks) n = (n ≡ k) ⊎ IsOneOf ks n
