-- The bytes that a look saw.
use Rattle.std.specs.Prelude.{◌≡◌, ◌≤◌, List, ℕ, length, IsTrue}
use Rattle.disk_model.specs.Places.{part}
use Rattle.shared_disk.specs.declared.shared.SharedDisk as shared

-- These are the first bytes that the last look saw.
pub record IsFront {S : Type 0} (g : shared.Ghosts S) (s : S) (front : List ℕ) : Type 0 where
  pub long : length front ≤ g.size s
  pub shown : IsTrue (g.is_honest s) → front ≡ part (g.looked s) 0 (length front)
