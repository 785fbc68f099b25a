-- The effect of a run of disk calls that writes a range of bytes, and nothing else.
use Rattle.std.specs.Prelude.{◌≡◌, ℕ, List, IsTrue}
use Rattle.disk_model.specs.Places.{SameOutside}
use Rattle.disk_model.specs.Disk.{ChangedIn}
use Rattle.disk_model.specs.Moments.{LeavesOnly}
use Rattle.disk_model.specs.declared.disk.Disk as disk

-- Of the bytes, and of those that a crash at any moment of the run may leave, none is changed but the n from place at on.
pub record Fills {D : Type 0} (g : disk.Ghosts D) (old new : D) (at n : ℕ) : Type 0 where
  pub moments : IsTrue (g.is_honest old) → LeavesOnly g old new (ChangedIn at n (g.may_leave old))
  pub others : IsTrue (g.is_honest old) → SameOutside at n (g.seen old) (g.seen new)
  -- the bytes that a crash leaves after it
  pub left : IsTrue (g.is_honest old) → (c : List ℕ) → g.may_leave new c → ChangedIn at n (g.may_leave old) c
  pub honesty : g.is_honest new ≡ g.is_honest old
  pub size : g.size new ≡ g.size old
