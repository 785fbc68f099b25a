-- The halves of a journal from moment to moment, in numbers: which one is taken, its generation, and the bytes of both.
use Rattle.std.specs.Prelude.{◌≡◌, ◌≢◌, ◌⊎◌, ℕ, ◌+◌, ◌<◌, ◌≤◌}
use Rattle.journal_layout.specs.declared.shape.Half.{Half}
use Rattle.journal_layout.specs.Rewriting.{other_half}

-- the same half is taken, with the same generation
abbrev pub IsStill : Half → ℕ → Half → ℕ → Type 0
IsStill half generation next later = (next ≡ half) × (later ≡ generation)

-- the other half is taken, with the next generation
abbrev pub HasMoved : Half → ℕ → Half → ℕ → Type 0
HasMoved half generation next later = (next ≡ other_half half) × (later ≡ generation + 1)

-- The moments are numbered, and there are n of them. Each half has `size` bytes from its start on.
pub record IsCourse (n size : ℕ) (start : Half → ℕ) (byte : ℕ → ℕ → ℕ) (half : ℕ → Half) (generation used : ℕ → ℕ) : Type 0 where
  pub moves : (k : ℕ) → k + 1 < n → IsStill (half k) (generation k) (half (k + 1)) (generation (k + 1)) ⊎ HasMoved (half k) (generation k) (half (k + 1)) (generation (k + 1))
  -- the bytes that the taken half has in use stay
  pub kept : (k p : ℕ) → k + 1 < n → start (half k) ≤ p → p < start (half k) + used k → byte (k + 1) p ≡ byte k p
  pub grows : (k : ℕ) → k + 1 < n → generation (k + 1) ≡ generation k → used k ≤ used (k + 1)
  -- The other half stays as it is while its gate is open.
  pub other : (k p : ℕ) → k + 1 < n → byte k (start (other_half (half k))) ≡ 165 → start (other_half (half k)) ≤ p → p < start (other_half (half k)) + size
      → (byte (k + 1) (start (other_half (half k))) ≢ 165) ⊎ (byte (k + 1) p ≡ byte k p)
  -- Once its gate is closed, it is closed until that half is taken.
  pub shut : (k : ℕ) → k + 1 < n → byte k (start (other_half (half k))) ≢ 165 → generation (k + 1) ≡ generation k → byte (k + 1) (start (other_half (half k))) ≢ 165
  pub shut_before : (k : ℕ) → k + 1 < n → generation (k + 1) ≡ generation k + 1 → byte k (start (other_half (half k))) ≢ 165
  pub opened : (k : ℕ) → k < n → byte k (start (half k)) ≡ 165
  pub header : (k : ℕ) → k < n → 32 ≤ used k
  pub fits : (k : ℕ) → k < n → used k ≤ size
  pub size_some : 32 ≤ size

-- `mark` is the generation that the lowest byte of a half's generation is of.
pub record HasMarks (n : ℕ) (start : Half → ℕ) (byte : ℕ → ℕ → ℕ) (half : ℕ → Half) (generation : ℕ → ℕ) (mark : Half → ℕ → ℕ) : Type 0 where
  pub rises : (h : Half) (k : ℕ) → k + 1 < n → mark h k ≤ mark h (k + 1)
  pub taken : (k : ℕ) → k < n → mark (half k) k ≡ generation k
  pub older : (k : ℕ) → k < n → byte k (start (other_half (half k))) ≡ 165 → mark (other_half (half k)) k < generation k
