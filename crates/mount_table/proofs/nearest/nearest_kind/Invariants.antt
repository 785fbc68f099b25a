use Rattle.std.proofs.Common.{◌≡◌, None}
use Rattle.std.specs.Option.{option_map}
use Rattle.mount_table.specs.MountWords.{mounts_left}
use Rattle.mount_table.specs.Lines.{mounts_of}
use Rattle.mount_table.specs.Nearest.{nearest}
use Rattle.mount_table.proofs.nearest.nearest_kind.Given as goal

-- the nearest of all mounts is the nearest of those that are left, and of the nearest so far
abbrev pub invariant-loop-mount : goal.invariant-loop-mount
invariant-loop-mount l = nearest l.path 0 None (mounts_of l.text) ≡ nearest l.path l.depth (option_map (λ kind. kind.now) l.kind) (mounts_left l.mounts)
