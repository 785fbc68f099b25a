-- Rows over one another: an address is decided by the first row in the list that has it.
use Rattle.std.specs.Prelude.{◌≡◌, ◌<◌, ◌≤◌, ℕ, ◌+◌, ◌^◌, ◌&&◌, nat_le, nat_lt, max, if◌then◌else◌, Bool, List, [], ◌∷◌, Option, None, Some, ⊤}
use Rattle.address_space.specs.ScanWords.{past_of}
use Rattle.address_space.specs.declared.row.Row.{Row}

-- whether the row has the address
abbrev pub has_row : ℕ → Row → Bool
has_row a r = nat_le r.start a && nat_lt a (past_of r)

-- the number of the first row that has the address
abbrev pub holder : List Row → ℕ → Option ℕ
holder [] a = None
holder (r ∷ rows) a = if has_row a r then Some r.number else holder rows a

-- the first answer, or else the second
abbrev pub or_else : Option ℕ → Option ℕ → Option ℕ
or_else None other = other
or_else (Some n) other = Some n

-- rows with rising numbers, from i on, that have addresses below 2^64
abbrev pub IsNumbered : ℕ → List Row → Type 0
IsNumbered i [] = ⊤
IsNumbered i (r ∷ rows) = (i ≤ r.number) × (0 < r.size) × (past_of r ≤ 2 ^ 64) × IsNumbered (r.number + 1) rows

-- rows in rising order, from low to high, of which no two have one address
abbrev pub IsLaid : ℕ → ℕ → List Row → Type 0
IsLaid low high [] = low ≤ high
IsLaid low high (r ∷ rows) = (low ≤ r.start) × (0 < r.size) × IsLaid (past_of r) high rows

-- each is as long as can be: the address after its last is not of its number
abbrev pub IsEnded : List Row → Type 0
IsEnded [] = ⊤
IsEnded (r ∷ rows) = (¬ (holder rows (past_of r) ≡ Some r.number)) × IsEnded rows

-- A sheet: rows in rising order, each as long as can be, of which no two have one address.
pub record IsSheet (rows : List Row) : Type 0 where
  pub laid : IsLaid 0 (2 ^ 64) rows
  pub ended : IsEnded rows

-- the answer of the first of two sheets, or else of the second
abbrev pub either_holder : List Row → List Row → ℕ → Option ℕ
either_holder over under a = or_else (holder over a) (holder under a)

-- where the first of some rows begins, or 2^64
abbrev pub ceiling_of : List Row → ℕ
ceiling_of [] = 2 ^ 64
ceiling_of (r ∷ rows) = r.start

-- no number is in both
abbrev pub AreStrange : List Row → List Row → Type 0
AreStrange over under = (a b n : ℕ) → holder over a ≡ Some n → holder under b ≡ Some n → ⊥

-- Two sheets from an address on, where the second may begin before it.
pub record IsMerging (over under : List Row) (at : ℕ) : Type 0 where
  pub over_laid : IsLaid at (2 ^ 64) over
  pub over_ended : IsEnded over
  pub under_laid : IsLaid 0 (2 ^ 64) under
  pub under_ended : IsEnded under
  pub strange : AreStrange over under

-- The row is the next one from an address on.
pub record IsNext (answer : ℕ → Option ℕ) (at : ℕ) (r : Row) : Type 0 where
  pub from : at ≤ r.start
  pub some : 0 < r.size
  pub fits : past_of r ≤ 2 ^ 64
  pub before : (a : ℕ) → at ≤ a → a < r.start → answer a ≡ None
  pub held : (a : ℕ) → r.start ≤ a → a < past_of r → answer a ≡ Some r.number
  pub ended : ¬ (answer (past_of r) ≡ Some r.number)

-- before the first row on top begins, the first row below has no address from `at` on
abbrev pub IsHidden : List Row → List Row → ℕ → Type 0
IsHidden over [] at = ⊤
IsHidden over (u ∷ under) at = ceiling_of over ≤ max at u.start

-- The row comes next, and the two sheets that are left answer as those before, after it.
pub record IsTaken (over under : List Row) (at : ℕ) (r : Row) (over_left under_left : List Row) (at_left : ℕ) : Type 0 where
  pub next : IsNext (either_holder over under) at r
  pub merging : IsMerging over_left under_left at_left
  pub behind : at_left ≡ past_of r
  pub same : (a : ℕ) → past_of r ≤ a → either_holder over_left under_left a ≡ either_holder over under a

-- From a on n addresses of at most limit have one answer, and the next, if it is one of them, has another.
pub record IsHeld (answer : ℕ → Option ℕ) (a limit n : ℕ) : Type 0 where
  pub some : 0 < n
  pub within : n ≤ limit
  pub same : (k : ℕ) → k < n → answer (a + k) ≡ answer a
  pub longest : n < limit → ¬ (answer a ≡ answer (a + n))
