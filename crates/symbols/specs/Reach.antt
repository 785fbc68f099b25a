-- How far functions that are sorted by value reach.
use Rattle.std.specs.Prelude.{ℕ, ◌+◌, ◌-◌, ◌^◌, nat_lt, min, max, Bool, false, List, [], ◌∷◌, Option, None, Some}
use Rattle.symbols.specs.declared.functions.Function.{Function}

-- the last address that a function covers, or the highest address of all if it exceeds that
abbrev pub last_of : Function → ℕ
last_of f = min (f.value + (f.size - 1)) (2 ^ 64 - 1)

-- for each function the highest last address among it, those before it, and a given one
abbrev pub greatest_ends : ℕ → List Function → List ℕ
greatest_ends m [] = []
greatest_ends m (f ∷ fs) = max (last_of f) m ∷ greatest_ends (max (last_of f) m) fs

-- a function of a smaller value than the best so far: none from there down is before that one
abbrev pub is_past : Option Function → Function → Bool
is_past None f = false
is_past (Some best) f = nat_lt f.value best.value
