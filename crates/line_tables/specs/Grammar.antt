-- Units and programs as relations, apart from how they are read; the state that
-- begins anew after a sequence; and the step at which an address is found.
use Rattle.std.specs.Prelude.{◌≡◌, ◌<◌, ℕ, ◌+◌, true, false, List, [], ◌∷◌, map, length, drop, slice_get, Some, Result, Ok}
use Rattle.line_tables.specs.Header.{MachineView}
use Rattle.line_tables.specs.Instructions.{StepView, step_in, behind_step, steps_in}
use Rattle.line_tables.specs.Rows.{start, rows_from}
use Rattle.line_tables.specs.Sequences.{crosses}
use Rattle.line_tables.specs.Units.{UnitView, framed, unit_of, behind_unit, place_behind}
use Rattle.line_tables.specs.declared.faults.LineField.{LineField}
use Rattle.line_tables.specs.declared.registers.Row.{Row}

-- The units of some bytes, the first of which has number i and is at place p:
-- no units if there are no bytes, else one, and those of the bytes after it.
abbrev pub IsUnits : ℕ → ℕ → List ℕ → List UnitView → Type 0
IsUnits i p bytes [] = bytes ≡ []
IsUnits i p bytes (u ∷ us) =
    (0 < length bytes) × (u ≡ unit_of i p (framed bytes)) × IsUnits (i + 1) (place_behind p bytes) (behind_unit (framed bytes)) us

-- units each of which is that of the bytes at its place in a section
abbrev pub ArePlaced : List ℕ → List UnitView → Type 0
ArePlaced section [] = Unit {0}
ArePlaced section (u ∷ us) = (u ≡ unit_of u.index u.place (framed (drop u.place section))) × ArePlaced section us

-- The instructions of a program: no instructions if there are no bytes, else
-- one, and those of the bytes after it. An instruction with a fault is the last.
abbrev pub IsProgram : ℕ → MachineView → List ℕ → List (Result StepView LineField) → Type 0
IsProgram version m bytes [] = bytes ≡ []
IsProgram version m bytes (r ∷ rs) =
    (0 < length bytes) × (r ≡ step_in version m bytes) × IsProgram version m (behind_step r) rs

-- instructions that lead from some bytes to others
abbrev pub Leads : ℕ → MachineView → List ℕ → List StepView → List ℕ → Type 0
Leads version m bytes [] rest = bytes ≡ rest
Leads version m bytes (s ∷ ss) rest = (step_in version m bytes ≡ Ok s) × Leads version m s.rest ss rest

-- the rows of a program, and those that instructions make alone
abbrev pub program_rows : ℕ → MachineView → List ℕ → List (Result Row LineField)
program_rows version m bytes = rows_from m start (steps_in version m bytes)

abbrev pub rows_by : MachineView → List StepView → List (Result Row LineField)
rows_by m steps = rows_from m start (map (λ (s : StepView). Ok s) steps)

-- a row of a sequence after which the address v is left behind, and the first such row
pub record IsStep (v : ℕ) (s : List Row) (r : Row) : Type 0 where
  pub index : ℕ
  pub next : Row
  pub here : slice_get s index ≡ Some r
  pub there : slice_get s (index + 1) ≡ Some next
  pub across : crosses v r next ≡ true
  pub first : (j : ℕ) (p q : Row) → j < index → slice_get s j ≡ Some p → slice_get s (j + 1) ≡ Some q → crosses v p q ≡ false
