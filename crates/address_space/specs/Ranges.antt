-- Addresses in a row that are answered alike.
use Rattle.std.specs.Prelude.{◌≡◌, ◌<◌, ◌≤◌, ℕ, ◌+◌, false, List, length, Option, None, Some, ⊤}
use Rattle.address_space.specs.Source.{Place, nowhere, dumped, cut_off, unwritten, in_file, Content, held, from_file, not_dumped, cut, unmapped}
use Rattle.address_space.specs.Pieces.{same_number, is_same}

-- From a on n addresses of at most limit have one answer, and the next, if it is one of them, has another.
pub record IsAlike {A : Type 0} (answer : ℕ → Option (ℕ × A)) (a limit n : ℕ) : Type 0 where
  pub some : 0 < n
  pub within : n ≤ limit
  pub same : (k : ℕ) → k < n → answer (a + k) ≡ answer a
  pub longest : n < limit → same_number (answer a) (answer (a + n)) ≡ false

-- The same of places.
pub record IsStretch (place : ℕ → Place) (a limit n : ℕ) : Type 0 where
  pub some : 0 < n
  pub within : n ≤ limit
  pub same : (k : ℕ) → k < n → place (a + k) ≡ place a
  pub longest : n < limit → is_same (place a) (place (a + n)) ≡ false

-- the number of the segment that decides
abbrev pub place_number : Place → Option ℕ
place_number nowhere = None
place_number (dumped i s) = Some i
place_number (cut_off i) = Some i
place_number (unwritten i e) = Some i
place_number (in_file i e x) = Some i

-- there are bytes for n addresses, if there are any
abbrev pub IsFull : ℕ → Content (List ℕ) → Type 0
IsFull n (held b) = length b ≡ n
IsFull n (from_file b) = length b ≡ n
IsFull n (not_dumped e) = ⊤
IsFull n cut = ⊤
IsFull n unmapped = ⊤
