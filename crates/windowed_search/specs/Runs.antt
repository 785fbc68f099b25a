-- The values of addresses in a row, as far as they have one.
use Rattle.std.specs.Prelude.{◌≡◌, ℕ, ◌+◌, List, [], ◌∷◌, None, Some}
use Rattle.std.specs.List.{filter_map, range_with_len}
use Rattle.address_space.specs.Source.{Space, value_at}

-- these are the values of the addresses from a on, and the address after them has none
abbrev pub IsRunOf : Space → ℕ → List ℕ → Type 0
IsRunOf space a [] = value_at space a ≡ None
IsRunOf space a (x ∷ xs) = (value_at space a ≡ Some x) × IsRunOf space (a + 1) xs

-- the values of n addresses from a on, of those that have one
unfoldable pub values_from : Space → ℕ → ℕ → List ℕ
values_from space a n = filter_map (value_at space) (range_with_len a n)
