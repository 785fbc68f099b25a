-- Mount points: how Linux writes them, which of them are above a path, and which of these is nearest to it.
use Rattle.std.specs.Prelude.{◌≡◌, ℕ, ◌+◌, ◌/◌, ◌%◌, ◌<◌, ◌==◌, ◌||◌, ◌⊎◌, true, false, List, [], ◌∷◌, ◌++◌, length, Option, None, Some, if◌then◌else◌}
use Rattle.std.specs.List.{AllByRecursion, flat_map}
use Rattle.mount_table.specs.Lines.{MountView}
use Rattle.mount_table.specs.Points.{is_above}

-- a byte of a path as Linux writes it: a space, a tab, a line's end and a backslash as a backslash and three octal digits
abbrev pub written_byte : ℕ → List ℕ
written_byte c = if c == 32 || c == 9 || c == 10 || c == 92 then 92 ∷ (48 + c / 64) ∷ (48 + c / 8 % 8) ∷ (48 + c % 8) ∷ [] else c ∷ []

abbrev pub written : List ℕ → List ℕ
written path = flat_map written_byte path

-- a mount point is the path; or the text after it in the path starts with a slash; or it ends with one, as the root does
abbrev pub IsAtOrAbove : List ℕ → List ℕ → Type 0
IsAtOrAbove point path =
    (path ≡ point) ⊎ (((rest : List ℕ) × (path ≡ point ++ 47 ∷ rest)) ⊎ ((front : List ℕ) × (rest : List ℕ) × (point ≡ front ++ 47 ∷ []) × (path ≡ point ++ rest)))

-- those of the mounts whose point is the path or above it have points of fewer bytes than this
abbrev pub AreShorter : List ℕ → ℕ → List MountView → Type 0
AreShorter path depth mounts = AllByRecursion (λ mount. is_above mount.point path ≡ true → length mount.point < depth) mounts

-- no mount's point is the path or above it; or the kind is that of one whose point is, of which no mount has a longer one, and none behind it
-- one as long
abbrev pub IsNearest : List ℕ → List MountView → Option (List ℕ) → Type 0
IsNearest path mounts None = AllByRecursion (λ mount. is_above mount.point path ≡ false) mounts
IsNearest path mounts (Some kind) =
    (before : List MountView) × (mount : MountView) × (behind : List MountView) × (mounts ≡ before ++ mount ∷ behind) × (mount.kind ≡ kind)
    × (is_above mount.point path ≡ true) × AreShorter path (length mount.point + 1) before × AreShorter path (length mount.point) behind
