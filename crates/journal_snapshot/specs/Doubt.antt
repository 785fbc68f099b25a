-- The places before the data blocks at which the bytes that reads give and those that a crash may leave differ.
use Rattle.std.specs.Prelude.{◌≡◌, ◌≢◌, ◌⊎◌, ℕ, ◌<◌, List, slice_index}
use Rattle.disk_model.specs.declared.disk.Disk as disk
use Rattle.journal_layout.specs.declared.shape.Shape.{Shape}
use Rattle.journal_layout.specs.Layout.{data_start}

-- Up to the data blocks, the bytes that a crash now may leave are those that reads give, except at these places.
abbrev pub DiffersAt : {D : Type 0} → disk.Ghosts D → D → Shape → (ℕ → Type 0) → Type 0
DiffersAt g d shape places =
    (c : List ℕ) (p : ℕ) → g.may_leave d c → p < data_start shape → places p ⊎ (slice_index c p ≡ slice_index (g.seen d) p)

-- Only a gate is in doubt, or, if it is closed, the bytes behind it up to this end.
abbrev pub DoubtsGate : {D : Type 0} → disk.Ghosts D → D → Shape → ℕ → ℕ → Type 0
DoubtsGate g d shape gate end =
    DiffersAt g d shape (λ p. p ≡ gate) ⊎ ((slice_index (g.seen d) gate ≢ 165) × DiffersAt g d shape (λ p. (gate < p) × (p < end)))
