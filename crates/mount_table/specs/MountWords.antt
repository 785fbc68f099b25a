-- A mount, and the iterator over mounts, as callers see them.
use Rattle.std.specs.Prelude.{List}
use Rattle.mount_table.specs.Lines.{MountView, mounts_in}
use Rattle.mount_table.specs.PiecesLeft.{pieces_left}
use Rattle.mount_table.specs.Points.{unescaped}
use Rattle.mount_table.specs.declared.lines.Mount.{Mount}
use Rattle.mount_table.specs.declared.mounts.Mounts.{Mounts}

-- a mount, its point without escapes
abbrev pub mount_view : Mount → MountView
mount_view mount = record { device = mount.device.now; point = unescaped mount.point.now; kind = mount.kind.now }

-- the mounts that have not come yet
abbrev pub mounts_left : Mounts → List MountView
mounts_left mounts = mounts_in (pieces_left mounts.lines)
