-- The counts of outcomes, and the text of the file that has them.
use Rattle.std.specs.Prelude.{◌≡◌, ◌≢◌, ℕ, ◌+◌, ◌-◌, ◌^◌, ◌<◌, List, [], ◌∷◌, ◌++◌, Option, Some, All, length, min, codes, decimal, get_or}
use Rattle.std.specs.List.{flat_map}
use Rattle.handler_files.specs.Counters.{counters, name, place}
use Rattle.handler_files.specs.declared.counters.Counter.{Counter}

-- the count of a counter
abbrev pub count_of : List ℕ → Counter → ℕ
count_of counts counter = get_or counts (place counter) 0

-- no byte is a newline
abbrev pub HasNoNewline : List ℕ → Type 0
HasNoNewline text = All (λ c. c ≢ 10) text

-- this line is read, and this rest
abbrev pub IsLineRead : Option (List ℕ × List ℕ) → List ℕ → List ℕ → Type 0
IsLineRead read line rest = read ≡ Some (line, rest)

-- this count is read, and this rest
abbrev pub IsCountRead : Option (ℕ × List ℕ) → ℕ → List ℕ → Type 0
IsCountRead read n rest = read ≡ Some (n, rest)

-- `NAME COUNT` and a newline
unfoldable pub line : Counter → ℕ → List ℕ
line counter n = name counter ++ (32 ∷ (decimal n ++ (10 ∷ [])))

-- the text of the file: a line for each counter, in their order
abbrev pub counts_text : List ℕ → List ℕ
counts_text counts = flat_map (λ counter. line counter (count_of counts counter)) counters

-- a count for each counter, of 64 bits
pub record AreCounts (counts : List ℕ) : Type 0 where
  pub count : length counts ≡ 25
  pub small : All (λ n. n < 2 ^ 64) counts

-- so many more; a count stops at the highest number of 64 bits
abbrev pub more : ℕ → ℕ → ℕ
more n by = min (n + by) (2 ^ 64 - 1)
