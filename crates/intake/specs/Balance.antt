-- How blocks pass between the free ones and those that something holds.
use Rattle.std.specs.Prelude.{◌≡◌, ℕ, ◌+◌, ◌≤◌, Bool, List, length, nat_lt}
use Rattle.extents.specs.FreeSet.{is_free, free_count, uses, one_if}

-- these blocks are among those of the map, each of them once, and none of them is free
abbrev pub AreHeld : List Bool → List ℕ → Type 0
AreHeld flags held = (k : ℕ) → one_if (is_free flags k) + uses held k ≤ one_if (nat_lt k (length flags))

-- these blocks are free, each of them once
abbrev pub AreFree : List Bool → List ℕ → Type 0
AreFree flags blocks = (k : ℕ) → uses blocks k ≤ one_if (is_free flags k)

-- The free blocks and the held blocks together stay the same: for each block, the sum of both counts is as before.
pub record Balances (old : List Bool) (held : List ℕ) (new : List Bool) (holds : List ℕ) : Type 0 where
  pub long : length new ≡ length old
  pub each : (k : ℕ) → one_if (is_free new k) + uses holds k ≡ one_if (is_free old k) + uses held k
  pub all : free_count new + length holds ≡ free_count old + length held
