-- Cases that are kept in the order in which they were stored, while the numbers of those that ended are noted.
use Rattle.std.specs.Prelude.{◌≡◌, ℕ, ◌+◌, ◌<◌, ◌≤◌, if◌then◌else◌, Bool, true, List, [], ◌∷◌}
use Rattle.std.specs.BTreeSet.{BTreeSet, contains_by}
use Rattle.std.specs.Ordering.{nat_cmp}
use Rattle.journal_layout.specs.declared.entry.Entry.{Entry}

-- Live cases as contracts see them.
pub record Numbered : Type 0 where
  -- each case under its number
  pub entries : List (ℕ × Entry)
  -- a number above those of all cases that were ever stored
  pub end : ℕ

-- whether it is one of the numbers
abbrev pub has_number : BTreeSet ℕ → ℕ → Bool
has_number numbers n = contains_by (nat_cmp n) numbers

-- the cases that have not ended, under their numbers
abbrev pub staying : (ℕ → Bool) → List Entry → List (ℕ × Entry)
staying ended [] = []
staying ended (e ∷ es) = if ended e.seq then staying ended es else (e.seq, e) ∷ staying ended es

-- The numbers rise, the first of them at `low` at least.
abbrev pub AreInOrder : ℕ → List Entry → Type 0
AreInOrder low [] = Unit {0}
AreInOrder low (e ∷ es) = (low ≤ e.seq) × AreInOrder (e.seq + 1) es

-- the number after the last one, or `low` if there is no entry
abbrev pub end_after : ℕ → List Entry → ℕ
end_after low [] = low
end_after low (e ∷ es) = end_after (e.seq + 1) es

-- The numbers rise, and those of cases that ended are not above all of them.
pub record AreStored (ended : ℕ → Bool) (es : List Entry) : Type 0 where
  pub order : AreInOrder 0 es
  pub below : (n : ℕ) → ended n ≡ true → n < end_after 0 es
