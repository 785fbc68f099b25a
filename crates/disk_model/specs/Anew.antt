-- A disk that begins anew: after a stop of the machine, or when its file is opened again.
use Rattle.std.specs.Prelude.{◌≡◌, ℕ, List, IsTrue}
use Rattle.disk_model.specs.Disk.{Only}
use Rattle.disk_model.specs.declared.disk.Disk as disk

-- A disk after a stop that left these bytes: reads give them, and until something is written a crash leaves them.
pub record Restarts {D : Type 0} (g : disk.Ghosts D) (left : List ℕ) (d : D) : Type 0 where
  pub honest : IsTrue (g.is_honest d)
  pub seen : g.seen d ≡ left
  pub settled : Only left (g.may_leave d)

-- A disk that is made anew from the file of another one, which may have failed. The operating system may keep bytes in memory that the device never
-- got. So before anything builds on the file, the bytes that reads give are made durable, or read from the device. Reads give one of the lists that a
-- crash could leave at the end of the other disk, and a crash leaves that list until something is written.
pub record IsMadeAnew {D : Type 0} (g : disk.Ghosts D) (old new : D) : Type 0 where
  pub left : List ℕ
  pub may : g.may_leave old left
  pub restarts : Restarts g left new
