-- A count of failures that is kept in 64 bits.
use Rattle.std.specs.Prelude.{◌≡◌, ℕ, ◌+◌, ◌-◌, ◌^◌, ◌<◌, ◌≤◌, min, max}

-- the count rose; a count at the highest number of 64 bits, or above it, counts as risen
abbrev pub HasRisen : ℕ → ℕ → Type 0
HasRisen old new = (old ≤ new) × (old < 2 ^ 64 - 1 → old < new)

-- the count after one more failure; it stays at the highest number of 64 bits, or above it
abbrev pub next_count : ℕ → ℕ
next_count count = max count (min (count + 1) (2 ^ 64 - 1))

-- one failure was counted, and nothing else
abbrev pub IsNextCount : ℕ → ℕ → Type 0
IsNextCount old new = new ≡ next_count old

-- two counts as one: their sum, at most the highest number of 64 bits
abbrev pub joined : ℕ → ℕ → ℕ
joined one other = min (one + other) (2 ^ 64 - 1)
