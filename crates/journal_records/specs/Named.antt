-- The names of cases, as a set keeps them.
use Rattle.std.specs.Prelude.{ℕ, ◌-◌, Bool, if◌then◌else◌, nat_lt, List, length, drop}
use Rattle.std.specs.BTreeSet.{BTreeSet, contains_by}
use Rattle.std.specs.Ordering.{nat_cmp, ordering_then}
use Rattle.std.specs.declared.cmp.Ordering.{Ordering}
use Rattle.std.specs.Cmp.Lexicographic.{slice_cmp}
use Rattle.arrayvec.specs.ArrayVec.{ArrayVec}
use Rattle.byteorder.specs.Endian.{big_number}

-- the number that the last eight bytes of a name spell, the highest first; 0 for a shorter name
unfoldable pub last_number : List ℕ → ℕ
last_number name = if nat_lt (length name) 8 then 0 else big_number 8 (drop (length name - 8) name)

-- the name behind its number
abbrev pub key_of : List ℕ → ℕ × ArrayVec ℕ
key_of name = (last_number name, record { items = name })

-- their order: that of the numbers, and of the names if the numbers are the same
abbrev pub key_cmp : ℕ × ArrayVec ℕ → ℕ × ArrayVec ℕ → Ordering
key_cmp x y = ordering_then (nat_cmp x.0 y.0) (slice_cmp nat_cmp x.1.items y.1.items)

-- whether it is one of the names
abbrev pub has_name : BTreeSet (ℕ × ArrayVec ℕ) → List ℕ → Bool
has_name names name = contains_by (key_cmp (key_of name)) names
