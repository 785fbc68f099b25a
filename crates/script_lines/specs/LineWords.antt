-- The words of a line that is not too long.
use Rattle.std.specs.Prelude.{ℕ, ◌<◌, ◌≤◌, List, [], ◌∷◌, length}
use Rattle.std.specs.Coded.{×_prop, Unit-prop, le_prop}

-- the word is not empty, and not longer than a line
abbrev pub IsLineWord : List ℕ → Type 0
IsLineWord word = (0 < length word) × (length word ≤ 1024)

-- each word is so
abbrev pub AreWords : List (List ℕ) → Type 0
AreWords [] = Unit {0}
AreWords (word ∷ words) = IsLineWord word × AreWords words

-- such facts have one proof at most
pub AreWords-prop : (words : List (List ℕ)) → IsProp (AreWords words)
AreWords-prop [] = Unit-prop
AreWords-prop (word ∷ words) = ×_prop (×_prop (le_prop {n = 1} {m = length word}) le_prop) (AreWords-prop words)
