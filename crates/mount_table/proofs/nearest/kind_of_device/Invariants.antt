use Rattle.std.proofs.Common.{◌≡◌}
use Rattle.mount_table.specs.MountWords.{mounts_left}
use Rattle.mount_table.specs.Lines.{mounts_of}
use Rattle.mount_table.specs.Nearest.{kind_of_device}
use Rattle.mount_table.proofs.nearest.kind_of_device.Given as goal

-- the mounts so far have other devices
abbrev pub invariant-loop-mount : goal.invariant-loop-mount
invariant-loop-mount l = kind_of_device l.device (mounts_of l.text) ≡ kind_of_device l.device (mounts_left l.mounts)
