-- The places where bytes occur in other bytes, which begin at an address.
use Rattle.std.specs.Prelude.{ℕ, ◌+◌, ◌-◌, ◌<◌, ◌==◌, ◌&&◌, ◌++◌, if◌then◌else◌, Bool, true, false, List, [], ◌∷◌, drop, length}
use Rattle.std.specs.List.{Contains}

-- whether the needle's bytes come first
unfoldable pub begins : List ℕ → List ℕ → Bool
begins [] xs = true
begins (n ∷ ns) [] = false
begins (n ∷ ns) (x ∷ xs) = x == n && begins ns xs

-- each address at which the needle occurs, in rising order: matches may overlap
unfoldable pub places : List ℕ → ℕ → List ℕ → List ℕ
places needle a [] = []
places needle a (x ∷ xs) = if begins needle (x ∷ xs) then a ∷ places needle (a + 1) xs else places needle (a + 1) xs

-- the last n of these bytes, or all of them
abbrev pub last_of : ℕ → List ℕ → List ℕ
last_of n xs = drop (length xs - n) xs

-- bytes whose first ones come last in some bytes, and whose others come first in the next, are found
abbrev pub MatchesAcrossAreFound : Type 0
MatchesAcrossAreFound =
    (left right before behind : List ℕ) (a : ℕ) → 0 < length (left ++ right)
    → Contains (places (left ++ right) a ((before ++ left) ++ (right ++ behind))) (a + length before)
