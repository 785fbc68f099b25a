-- LEB128 numbers and the entries of a table as relations, apart from how they are read.
use Rattle.std.specs.Prelude.{◌≡◌, ◌<◌, ◌≤◌, ◌^◌, ℕ, ◌+◌, ◌-◌, true, false, List, [], ◌∷◌, ◌++◌, length, drop, slice_index}
use Rattle.call_frames.specs.Leb.{groups}
use Rattle.call_frames.specs.Walk.{is_end, entry_len}
use Rattle.call_frames.specs.declared.spots.Spot.{Spot}

-- the bytes of one number: at most ten, each but the last with its highest bit set
pub record IsLeb (text : List ℕ) : Type 0 where
  pub some : 0 < length text
  pub few : length text ≤ 10
  pub goes_on : (k : ℕ) → k + 1 < length text → 128 ≤ slice_index text k
  pub ends : slice_index text (length text - 1) < 128

-- a ULEB128 at the front of some bytes: its text, its number, and the bytes after it
pub record IsUnsigned (bytes : List ℕ) (n : ℕ) (rest : List ℕ) : Type 0 where
  pub text : List ℕ
  pub leb : IsLeb text
  pub whole : bytes ≡ text ++ rest
  pub number : groups text ≡ n
  pub small : n < 2 ^ 64

-- The entries of a table from place p on, the first of which has number i. There are no entries if the walk ends; else one is there, and the others
-- are those from its end on.
abbrev pub IsWalk : List ℕ → ℕ → ℕ → List Spot → Type 0
IsWalk bytes p i [] = is_end (drop p bytes) ≡ true
IsWalk bytes p i (s ∷ ss) =
    (is_end (drop p bytes) ≡ false) × (s ≡ record { index = i; place = p }) × IsWalk bytes (p + entry_len (drop p bytes)) (i + 1) ss
