-- The bytes of a disk that others change from one look at it to the next.
use Rattle.std.specs.Prelude.{◌≡◌, ◌⊎◌, ℕ, ◌+◌, ◌<◌, List, [], ◌∷◌, ◌++◌, length, slice_index}

-- it is one of these
abbrev pub IsHeld : List (List ℕ) → List ℕ → Type 0
IsHeld [] c = ⊥
IsHeld (b ∷ bs) c = (c ≡ b) ⊎ IsHeld bs c

-- Each of these bytes, from place `at` on, is one that some of these lists has at its place. They need not be of one list: a write
-- may come in the middle of a read.
abbrev pub AreHeld : List (List ℕ) → ℕ → List ℕ → Type 0
AreHeld lists at bytes = (k : ℕ) → k < length bytes → (c : List ℕ) × IsHeld lists c × (slice_index bytes k ≡ slice_index c (at + k))

-- the last of these is it
abbrev pub EndsWith : List (List ℕ) → List ℕ → Type 0
EndsWith lists c = (front : List (List ℕ)) × (lists ≡ front ++ c ∷ [])
