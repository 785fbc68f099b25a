-- The bytes that a read of a disk gives while others change the disk.
use Rattle.std.specs.Prelude.{◌≡◌, ℕ, ◌+◌, ◌<◌, ◌≤◌, List, length, slice_index}
use Rattle.shared_disk.specs.History.{moment}

-- from moment i to moment j these bytes were read from place `at` on, each of which is that of one of these moments
abbrev pub AreReadIn : List (List ℕ) → ℕ → ℕ → ℕ → List ℕ → Type 0
AreReadIn moments i j at bytes = (k : ℕ) → k < length bytes → (m : ℕ) × (i ≤ m) × (m ≤ j) × (slice_index bytes k ≡ slice_index (moment moments m) (at + k))
