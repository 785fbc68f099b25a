-- The bytes of an archive, with one of them shown as another.
use Rattle.std.specs.Prelude.{◌≡◌, ℕ, ◌<◌, List, [], ◌∷◌, Option, None, Some}
use Rattle.disk_model.specs.Places.{overwritten}
use Rattle.salvage.specs.declared.shown.Patch.{Patch}

-- with this byte in its place
abbrev pub patched : Patch → List ℕ → List ℕ
patched p b = overwritten b p.at (p.byte ∷ [])

abbrev pub shown : Option Patch → List ℕ → List ℕ
shown None b = b
shown (Some p) b = patched p b

-- the place is one of so many
abbrev pub IsWithin : ℕ → Option Patch → Type 0
IsWithin size patch = (p : Patch) → patch ≡ Some p → p.at < size

-- each value that is shown is a byte
abbrev pub IsSmall : Option Patch → Type 0
IsSmall patch = (p : Patch) → patch ≡ Some p → p.byte < 256
