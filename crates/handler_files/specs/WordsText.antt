-- The text of a file that keeps the words of a core.
use Rattle.std.specs.Prelude.{◌≡◌, ◌≢◌, ℕ, ◌<◌, ◌^◌, List, [], ◌∷◌, ◌++◌, All, Option, Some, None, ⊤, codes, decimal}

-- the line that states a length, if there is one
abbrev pub length_line : Option ℕ → List ℕ
length_line None = []
length_line (Some n) = codes "length=" ++ (decimal n ++ (10 ∷ []))

-- the line that begins the core, and its length if that is stated
abbrev pub words_text : List ℕ → Option ℕ → List ℕ
words_text line length = line ++ (10 ∷ length_line length)

-- no byte is a newline: so it is with each line of a script
abbrev pub HasNoNewline : List ℕ → Type 0
HasNoNewline line = All (λ c. c ≢ 10) line

-- a length is a number of 64 bits
abbrev pub IsLength : Option ℕ → Type 0
IsLength None = ⊤
IsLength (Some n) = n < 2 ^ 64

-- it reads as these words
abbrev pub ReadsAs : List ℕ → Option ℕ → Option (List ℕ × Option ℕ) → Type 0
ReadsAs line length None = ⊥
ReadsAs line length (Some found) = (found.0 ≡ line) × (found.1 ≡ length)
