-- The facts about a disk whose writes are gathered: the disk below, and whether anything is gathered.
use Rattle.std.specs.Prelude.{◌≡◌, []}
use Rattle.disk_model.specs.Gathers.{bytes_of}
use Rattle.disk_model.specs.declared.gathering.Gathering.{Gathering}
use Rattle.disk_model.specs.declared.disk.Disk as disk

module _ {D : Type 0} {g : disk.Ghosts D} where
  abbrev pub below_of : Gathering D g → D
  below_of gathering = gathering.disk

  -- nothing is gathered, and no sync was refused
  abbrev pub is_bare : Gathering D g → Type 0
  is_bare gathering = (bytes_of gathering.gathered ≡ []) × (gathering.refused ≡ 0)
