-- The bytes that crashes at the moments of a run of disk calls may leave.
use Rattle.std.specs.Prelude.{◌⊎◌, ℕ, ◌≤◌, List}
use Rattle.disk_model.specs.Disk.{Only}
use Rattle.disk_model.specs.declared.disk.Disk as disk

-- A crash at any moment since old, up to now, leaves bytes that have P.
pub record LeavesOnly {D : Type 0} (g : disk.Ghosts D) (old new : D) (P : List ℕ → Type 0) : Type 0 where
  pub later : g.clock old ≤ g.clock new
  pub each : (c : List ℕ) → g.left_since new (g.clock old) c → P c
  -- for a run that began earlier
  pub before : (t : ℕ) (c : List ℕ) → t ≤ g.clock old → g.left_since new t c → g.left_since old t c ⊎ P c

-- A crash at a moment of a run that began at old or earlier leaves bytes that a crash until old may have left, or bytes that have P.
pub record AddsOnly {D : Type 0} (g : disk.Ghosts D) (old new : D) (P : List ℕ → Type 0) : Type 0 where
  pub later : g.clock old ≤ g.clock new
  pub added : (t : ℕ) (c : List ℕ) → t ≤ g.clock old → g.left_since new t c → g.left_since old t c ⊎ P c

-- a crash now leaves the bytes that reads give
abbrev pub IsSettled : {D : Type 0} → disk.Ghosts D → D → Type 0
IsSettled g d = Only (g.seen d) (g.may_leave d)
