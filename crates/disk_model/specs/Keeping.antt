-- The properties of a disk that a call keeps, whatever else it does with it.
use Rattle.std.specs.Prelude.{◌≡◌, ◌≤◌}
use Rattle.disk_model.specs.Disk.{HasRisen}
use Rattle.disk_model.specs.declared.disk.Disk as disk

-- A fault of the disk is answered only if the disk's count of failures rose. That count never falls, and the disk stays as
-- honest and as long as it was.
pub record KeepsDisk {D : Type 0} (g : disk.Ghosts D) (old new : D) (fault : Type 0) : Type 0 where
  pub cause : fault → HasRisen (g.failures old) (g.failures new)
  pub later : g.failures old ≤ g.failures new
  pub honesty : g.is_honest new ≡ g.is_honest old
  pub size : g.size new ≡ g.size old
