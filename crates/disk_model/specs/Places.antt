-- Words on places of a list of bytes. Places count from 0.
use Rattle.std.specs.Prelude.{◌≡◌, ℕ, ◌+◌, ◌<◌, List, ◌++◌, length, take, drop, slice_index}

-- each of them is a byte
abbrev pub AreBytes : List ℕ → Type 0
AreBytes bytes = (k : ℕ) → slice_index bytes k < 256

-- the n bytes from place at on
unfoldable pub part : List ℕ → ℕ → ℕ → List ℕ
part bytes at n = take n (drop at bytes)

-- old with these bytes from place at on
abbrev pub overwritten : List ℕ → ℕ → List ℕ → List ℕ
overwritten old at bytes = take at old ++ bytes ++ drop (at + length bytes) old

-- new is as long as old and differs from it in the n bytes from place at on at most
pub record SameOutside (at n : ℕ) (old new : List ℕ) : Type 0 where
  pub same_length : length new ≡ length old
  pub before : take at new ≡ take at old
  pub after : drop (at + n) new ≡ drop (at + n) old
