-- Words as a line of a script.
use Rattle.std.specs.Prelude.{ℕ, List, [], ◌∷◌, ◌++◌}
use Rattle.std.specs.List.{flat_map}

-- a word that follows another
abbrev pub spaced : List ℕ → List ℕ
spaced word = 32 ∷ word

-- words with a space between them
abbrev pub joined : List (List ℕ) → List ℕ
joined [] = []
joined (word ∷ words) = word ++ flat_map spaced words
