-- The units of `.debug_line`, one after another (DWARF 5, 6.2.4, 1, and 7.4): a unit_length of four bytes, and as many bytes. It is that of
-- 32-bit DWARF: below 0xfffffff0. Those of `.debug_info` are divided in the same way (7.5.1).
use Rattle.std.specs.Prelude.{ℕ, zero, suc, ◌+◌, ◌-◌, nat_lt, if◌then◌else◌, List, [], ◌∷◌, length, Option, None, Some}
use Rattle.std.specs.Option.{option_and_then, option_map}
use Rattle.line_tables.specs.Texts.{number, split}

-- the bytes of the unit at the front from after its unit_length on, and those after it, if it is all there
abbrev pub if_whole : ℕ × List ℕ → Option (List ℕ × List ℕ)
if_whole n = if nat_lt n.0 0xfffffff0 then split n.0 n.1 else None

unfoldable pub framed : List ℕ → Option (List ℕ × List ℕ)
framed rest = option_and_then if_whole (number 4 rest)

-- a unit: its number, from 0 on, the place at which it begins, and its bytes; no bytes if its unit_length fails
pub record UnitView : Type 0 where
  pub index : ℕ
  pub place : ℕ
  pub bytes : Option (List ℕ)

abbrev pub unit_of : ℕ → ℕ → Option (List ℕ × List ℕ) → UnitView
unit_of i p o = record { index = i; place = p; bytes = option_map (λ (b : List ℕ × List ℕ). b.0) o }

-- nothing is looked for after a unit whose unit_length fails
abbrev pub behind_unit : Option (List ℕ × List ℕ) → List ℕ
behind_unit None = []
behind_unit (Some p) = p.1

-- the place of the bytes after the unit at the front, which is at place p
abbrev pub place_behind : ℕ → List ℕ → ℕ
place_behind p bytes = p + (length bytes - length (behind_unit (framed bytes)))

-- The units of some bytes, the first of which has number i and is at place p. Each takes at least one byte, so there are at most n in n
-- bytes.
unfoldable pub units_for : ℕ → ℕ → ℕ → List ℕ → List UnitView
units_for zero i p bytes = []
units_for (suc n) i p [] = []
units_for (suc n) i p (x ∷ xs) =
    unit_of i p (framed (x ∷ xs)) ∷ units_for n (i + 1) (place_behind p (x ∷ xs)) (behind_unit (framed (x ∷ xs)))

abbrev pub units_from : ℕ → ℕ → List ℕ → List UnitView
units_from i p bytes = units_for (length bytes) i p bytes

-- the units of a section
abbrev pub units_in : List ℕ → List UnitView
units_in section = units_from 0 0 section
