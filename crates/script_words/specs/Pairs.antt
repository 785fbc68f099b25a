-- A word as a key and its value.
use Rattle.std.specs.Prelude.{ℕ, ◌==◌, List, [], ◌∷◌, Option, None, Some, if◌then◌else◌}

-- the pair, c before the key
abbrev pub with_key_byte : ℕ → Option (List ℕ × List ℕ) → Option (List ℕ × List ℕ)
with_key_byte c None = None
with_key_byte c (Some pair) = Some (c ∷ pair.0, pair.1)

-- the bytes before the first `=` of a word, and those after it
abbrev pub pair_of : List ℕ → Option (List ℕ × List ℕ)
pair_of [] = None
pair_of (c ∷ cs) = if c == 61 then Some ([], cs) else with_key_byte c (pair_of cs)
