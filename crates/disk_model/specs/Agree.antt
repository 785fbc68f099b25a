-- Lists that are the same outside several ranges.
use Rattle.std.specs.Prelude.{◌≡◌, ◌⊎◌, ℕ, ◌+◌, ◌<◌, ◌≤◌, List, [], ◌∷◌, length, slice_index}

-- the size places from place at on
pub record Range : Type 0 where
  pub at : ℕ
  pub size : ℕ

-- the place lies outside each of them
abbrev pub IsOutside : List Range → ℕ → Type 0
IsOutside [] k = Unit {0}
IsOutside (r ∷ ranges) k = ((k < r.at) ⊎ (r.at + r.size ≤ k)) × IsOutside ranges k

-- as long, and the same at each place outside the ranges
pub record AgreesOutside (ranges : List Range) (old new : List ℕ) : Type 0 where
  pub same_length : length new ≡ length old
  pub same : (k : ℕ) → IsOutside ranges k → slice_index new k ≡ slice_index old k

-- each of the outcomes agrees with these bytes outside the ranges
abbrev pub AllAgree : List Range → List ℕ → (List ℕ → Type 0) → Type 0
AllAgree ranges bytes outcomes = (c : List ℕ) → outcomes c → AgreesOutside ranges bytes c
