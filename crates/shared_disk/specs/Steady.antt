-- Ranges of a disk that nobody changes meanwhile.
use Rattle.std.specs.Prelude.{ℕ, ◌+◌, ◌&&◌, Bool, true, List, [], ◌∷◌, nat_le}
use Rattle.std.specs.List.{list_any}
use Rattle.std.specs.Str.{bytes_eq}
use Rattle.intake.specs.Ranges.{bytes_in}
use Rattle.intake.specs.declared.ranges.ByteRange.{ByteRange}

-- each of these lists has the same bytes there as the first one
abbrev pub are_steady : List ByteRange → List ℕ → List (List ℕ) → Bool
are_steady ranges first [] = true
are_steady ranges first (c ∷ cs) = bytes_eq (bytes_in c ranges) (bytes_in first ranges) && are_steady ranges first cs

-- n bytes from place `at` on lie in the range
abbrev pub holds_part : ℕ → ℕ → ByteRange → Bool
holds_part at n r = nat_le r.start at && nat_le (at + n) (r.start + r.length)

-- they lie in one of the ranges
abbrev pub is_in_one : List ByteRange → ℕ → ℕ → Bool
is_in_one ranges at n = list_any (holds_part at n) ranges
