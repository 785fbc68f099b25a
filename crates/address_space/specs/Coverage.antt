-- Pieces and texts as a whole: the pieces of a range are its addresses
-- in rising order, and each piece and each text is as long as it can be.
use Rattle.std.specs.Prelude.{◌≡◌, ◌<◌, ◌≤◌, ℕ, ◌+◌, ◌-◌, ◌^◌, Bool, true, false, List, [], ◌∷◌, ◌⊎◌}
use Rattle.address_space.specs.Source.{Space}
use Rattle.address_space.specs.Occurrence.{is_text_at}

-- the first part of n addresses from a on: its neighbours are the same, and its last is not the same as the one after
pub record IsFirst (same : ℕ → ℕ → Bool) (a n : ℕ) (x : ℕ × ℕ) : Type 0 where
  pub first : x.0 ≡ a
  pub some : 0 < x.1
  pub within : x.1 ≤ n
  pub joined : (k : ℕ) → k + 1 < x.1 → same (a + k) (a + k + 1) ≡ true
  pub apart : x.1 < n → same (a + x.1 - 1) (a + x.1) ≡ false

-- parts, one after the other, that are n addresses from a on
abbrev pub IsPartition : (ℕ → ℕ → Bool) → ℕ → ℕ → List (ℕ × ℕ) → Type 0
IsPartition same a n [] = n ≡ 0
IsPartition same a n (x ∷ xs) = IsFirst same a n x × IsPartition same (a + x.1) (n - x.1) xs

-- m addresses from a on are a text: no byte of text is right before or right after them
pub record IsText (space : Space) (a m : ℕ) : Type 0 where
  pub some : 0 < m
  pub within : a + m ≤ 2 ^ 64
  pub bytes : (k : ℕ) → k < m → is_text_at space (a + k) ≡ true
  pub front : (a ≡ 0) ⊎ (is_text_at space (a - 1) ≡ false)
  pub behind : a + m < 2 ^ 64 → is_text_at space (a + m) ≡ false
