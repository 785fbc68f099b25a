-- The known facts about a disk after a look.
use Rattle.std.specs.Prelude.{◌≡◌, List, IsTrue}
use Rattle.intake.specs.declared.ranges.ByteRange.{ByteRange}
use Rattle.shared_disk.specs.Meanwhile.{EndsWith}
use Rattle.shared_disk.specs.declared.looked.Looked.{Looked}
use Rattle.shared_disk.specs.declared.shared.SharedDisk as shared
use Rattle.shared_disk.specs.declared.unlocked.Unlocked.{Unlocked}

module _ {S : Type 0} {g : shared.Ghosts S} where
  -- the disk that others change
  abbrev pub shared_of : Looked S g → S
  shared_of l = l.shared

  abbrev pub under : Unlocked S g → S
  under u = u.shared.now

  -- the ranges that may be read of it
  abbrev pub ranges_of : Unlocked S g → List ByteRange
  ranges_of u = u.ranges.items

-- A new look was made: the interval before ended with the bytes that the disk held then.
pub record LooksAnew {S : Type 0} (g : shared.Ghosts S) (old new : S) : Type 0 where
  pub honesty : g.is_honest new ≡ g.is_honest old
  pub size : g.size new ≡ g.size old
  pub next : IsTrue (g.is_honest old) → EndsWith (g.meanwhile old) (g.looked new)
