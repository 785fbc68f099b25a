-- The generations and gates of both halves, as they are read.
use Rattle.std.specs.Prelude.{◌≡◌, ◌≢◌, ◌⊎◌, ℕ, ◌+◌, ◌<◌, ◌≤◌, List, slice_index}
use Rattle.disk_model.specs.Places.{part}
use Rattle.journal_layout.specs.declared.shape.Shape.{Shape}
use Rattle.journal_layout.specs.declared.shape.Half.{Half}
use Rattle.journal_layout.specs.declared.shape.Half.TheVariants.{A, B}
use Rattle.journal_layout.specs.Layout.{field, half_start}
use Rattle.shared_disk.specs.declared.heads.Heads.{Heads}
use Rattle.shared_disk.specs.Reading.{AreReadIn}

-- from moment i to moment j
abbrev pub ReadsGenerations : List (List ℕ) → ℕ → ℕ → Shape → Heads → Type 0
ReadsGenerations moments i j shape h = AreReadIn moments i j (half_start shape A + 8) h.generation_a × AreReadIn moments i j (half_start shape B + 8) h.generation_b

abbrev pub ReadsGates : List (List ℕ) → ℕ → ℕ → Shape → Heads → Type 0
ReadsGates moments i j shape h = AreReadIn moments i j (half_start shape A) h.gate_a × AreReadIn moments i j (half_start shape B) h.gate_b

-- these bytes have them
pub record HasHeads (front : List ℕ) (shape : Shape) (h : Heads) : Type 0 where
  pub generation_a : part front (half_start shape A + 8) 8 ≡ h.generation_a
  pub generation_b : part front (half_start shape B + 8) 8 ≡ h.generation_b
  pub gate_a : part front (half_start shape A) 1 ≡ h.gate_a
  pub gate_b : part front (half_start shape B) 1 ≡ h.gate_b

-- This half is open, and the other one is not, or is no later.
abbrev pub IsLater : Heads → Half → Type 0
IsLater h A = (slice_index h.gate_a 0 ≡ 165) × ((slice_index h.gate_b 0 ≢ 165) ⊎ (field h.generation_b 0 8 < field h.generation_a 0 8))
IsLater h B = (slice_index h.gate_b 0 ≡ 165) × ((slice_index h.gate_a 0 ≢ 165) ⊎ (field h.generation_a 0 8 ≤ field h.generation_b 0 8))
