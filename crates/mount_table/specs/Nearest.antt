-- Which mount a file lies on.
use Rattle.std.specs.Prelude.{ℕ, Bool, false, nat_le, List, [], ◌∷◌, Option, None, Some, if◌then◌else◌, unwrap_or}
use Rattle.std.specs.Str.{bytes_eq}
use Rattle.mount_table.specs.Lines.{MountView}
use Rattle.mount_table.specs.Points.{depth_of}

-- the kind of the first mount with a device
abbrev pub kind_of_device : List ℕ → List MountView → Option (List ℕ)
kind_of_device device [] = None
kind_of_device device (mount ∷ mounts) = if bytes_eq mount.device device then Some mount.kind else kind_of_device device mounts

-- a mount point is the path or a directory above it, and has so many bytes at least
abbrev pub is_as_deep : ℕ → Option ℕ → Bool
is_as_deep depth None = false
is_as_deep depth (Some found) = nat_le depth found

-- The kind of the mount that is nearest to a path: no other whose point is the path or a directory above it has a longer point, and none
-- behind it one as long. Before these mounts the nearest had a point of so many bytes, and this kind.
abbrev pub nearest : List ℕ → ℕ → Option (List ℕ) → List MountView → Option (List ℕ)
nearest path depth kind [] = kind
nearest path depth kind (mount ∷ mounts) =
    if is_as_deep depth (depth_of mount.point path) then nearest path (unwrap_or (depth_of mount.point path) 0) (Some mount.kind) mounts
    else nearest path depth kind mounts

-- the first kind if it was found, or else the second
abbrev pub first_found : Option (List ℕ) → Option (List ℕ) → Option (List ℕ)
first_found None other = other
first_found (Some kind) other = Some kind

-- the kind of the file system of a file with this device and this path
abbrev pub kind_at : List MountView → List ℕ → List ℕ → Option (List ℕ)
kind_at mounts device path = first_found (kind_of_device device mounts) (nearest path 0 None mounts)
