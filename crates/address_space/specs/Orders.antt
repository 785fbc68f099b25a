-- The rows of a sheet by their numbers.
use Rattle.std.specs.Prelude.{◌≡◌, ◌<◌, ◌≤◌, ℕ, ◌+◌, ◌*◌, ◌^◌, List, Option, Some, Contains}
use Rattle.address_space.specs.ScanWords.{past_of}
use Rattle.address_space.specs.declared.row.Row.{Row}

-- the key by which rows are ordered: the number, and then the first address
abbrev pub key_of : Row → ℕ
key_of r = r.number * 2 ^ 64 + r.start

-- one of the rows has the number and the address
pub record IsAmong (rows : List Row) (a n : ℕ) : Type 0 where
  pub row : Row
  pub among : Contains rows row
  pub number : row.number ≡ n
  pub from : row.start ≤ a
  pub within : a < past_of row

-- The rows are the addresses that are answered, with their answers.
pub record IsOrderOf (answer : ℕ → Option ℕ) (rows : List Row) : Type 0 where
  pub whole : (a n : ℕ) → answer a ≡ Some n → ∥ IsAmong rows a n ∥₁
  pub right : (s : Row) → Contains rows s → (a : ℕ) → s.start ≤ a → a < past_of s → answer a ≡ Some s.number
  pub fits : (s : Row) → Contains rows s → s.start < 2 ^ 64
