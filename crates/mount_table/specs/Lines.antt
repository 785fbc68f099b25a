-- Lines of /proc/self/mountinfo (proc_pid_mountinfo(5)). The fields of one are separated by a space each:
--     36 35 98:0 /mnt1 /mnt2 rw,noatime master:1 - ext3 /dev/root rw,errors=continue
-- its number, its parent's, the device, the root within the file system, the mount point, the mount's options, any number of optional
-- fields, a hyphen, the file system's kind, its source and its options.
use Rattle.std.specs.Prelude.{ℕ, List, [], ◌∷◌, codes, Option, None, slice_get, if◌then◌else◌}
use Rattle.std.specs.List.{filter_map}
use Rattle.std.specs.Option.{option_map}
use Rattle.std.specs.Str.{bytes_eq}
use Rattle.mount_table.specs.Pieces.{pieces_of}
use Rattle.mount_table.specs.Points.{unescaped}

-- the fields of a mount: its device as MAJOR:MINOR, its mount point, and the kind of its file system
pub record MountView : Type 0 where
  pub device : List ℕ
  pub point : List ℕ
  pub kind : List ℕ

-- the field behind the hyphen that ends the optional ones
abbrev pub kind_among : List (List ℕ) → Option (List ℕ)
kind_among [] = None
kind_among (one ∷ fields) = if bytes_eq one (codes "-") then slice_get fields 0 else kind_among fields

-- the mount of these fields, if they are those of one
abbrev pub mount_in : List (List ℕ) → Option MountView
mount_in [] = None
mount_in (number ∷ []) = None
mount_in (number ∷ parent ∷ []) = None
mount_in (number ∷ parent ∷ device ∷ []) = None
mount_in (number ∷ parent ∷ device ∷ root ∷ []) = None
mount_in (number ∷ parent ∷ device ∷ root ∷ point ∷ []) = None
mount_in (number ∷ parent ∷ device ∷ root ∷ point ∷ options ∷ fields) =
    option_map (λ kind. record { device = device; point = unescaped point; kind = kind }) (kind_among fields)

-- the mounts of lines; lines that are no mount's are left out
abbrev pub mounts_in : List (List ℕ) → List MountView
mounts_in lines = filter_map (λ line. mount_in (pieces_of 32 line)) lines

-- the mounts of a text
abbrev pub mounts_of : List ℕ → List MountView
mounts_of text = mounts_in (pieces_of 10 text)
