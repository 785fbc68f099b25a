-- Counts over several calls, and two counts as one.
use Rattle.std.proofs.Common.{ℕ, ◌-◌, ◌^◌, ◌<◌, ◌≤◌, ⊎_elim, arith}
use Rattle.std.proofs.lemmas.Bool.{cases_lt}
use Rattle.diagnostics.specs.Counts.{HasRisen, IsNextCount, joined}

rises : (a b c most : ℕ) → a ≤ b → b ≤ c → (b < most → b < c) → a < most → a < c
rises a b c most later grows rose small = ⊎_elim (λ below. omega (arith, rose below)) (λ above. omega arith) (cases_lt b most)

-- a count that rose since a moment rose since each moment before
pub risen_since : (a b c : ℕ) → a ≤ b → HasRisen b c → HasRisen a c
risen_since a b c later rose = (omega (arith, rose.0), rises a b c (2 ^ 64 - 1) later rose.0 rose.1)

-- the next count is risen
pub next_risen : (old new : ℕ) → IsNextCount old new → HasRisen old new
next_risen old new next = (omega (arith, next), λ small. omega (arith, next, small))

-- one failure more of the one count is one more of both
pub joined_left : (one new other : ℕ) → IsNextCount one new → IsNextCount (joined one other) (joined new other)
joined_left one new other next = omega (arith, next)

-- one failure more of the other count is one more of both too
pub joined_right : (one other new : ℕ) → IsNextCount other new → IsNextCount (joined one other) (joined one new)
joined_right one other new next = omega (arith, next)
