-- The rows of the line number table (DWARF 5, 6.2.2 and 6.2.5). Column, is_stmt and the other registers are not kept.
use Rattle.std.specs.Prelude.{ℕ, ◌+◌, ◌-◌, ◌*◌, ◌/◌, ◌%◌, ◌^◌, nat_lt, if◌then◌else◌, true, false, List, [], ◌∷◌, Option, None, Some, Result, Ok, Err}
use Rattle.std.specs.Option.{option_map}
use Rattle.line_tables.specs.Header.{MachineView, HeaderView}
use Rattle.line_tables.specs.Instructions.{StepView, steps_in}
use Rattle.line_tables.specs.declared.faults.LineField.{LineField}
use Rattle.line_tables.specs.declared.instructions.Instruction.{Instruction}
use Rattle.line_tables.specs.declared.instructions.Instruction.TheVariants.{Special, CopyRow, AdvancePc, AdvanceLine, SetFile, ConstAddPc, FixedAdvancePc, EndSequence, SetAddress}
use Rattle.line_tables.specs.declared.registers.Registers.{Registers}
use Rattle.line_tables.specs.declared.registers.Row.{Row}

-- the registers at the start of each sequence
abbrev pub start : Registers
start = record { address = 0; file = 1; line = 1 }

-- the address advanced by so many instructions, modulo 2^64
abbrev pub advanced : MachineView → Registers → ℕ → ℕ
advanced m s n = (s.address + m.minimum_instruction_length * n) % 2 ^ 64

-- line_base is a signed byte, and lines are modulo 2^32
abbrev pub base_of : ℕ → ℕ
base_of b = if nat_lt b 128 then b else b + (2 ^ 32 - 256)

abbrev pub at_address : Registers → ℕ → Registers
at_address s a = record { address = a; file = s.file; line = s.line }

abbrev pub at_line : Registers → ℕ → Registers
at_line s n = record { address = s.address; file = s.file; line = n % 2 ^ 32 }

-- the registers after an instruction; those after an end of a sequence are looked at below
abbrev pub executed : MachineView → Registers → Instruction → Registers
executed m s (Special a) = at_line (at_address s (advanced m s (a / m.line_range))) (s.line + base_of m.line_base + a % m.line_range)
executed m s (AdvancePc n) = at_address s (advanced m s n)
executed m s (AdvanceLine n) = at_line s (s.line + n)
executed m s (SetFile n) = record { address = s.address; file = n; line = s.line }
executed m s ConstAddPc = at_address s (advanced m s ((255 - m.opcode_base) / m.line_range))
executed m s (FixedAdvancePc n) = at_address s ((s.address + n) % 2 ^ 64)
executed m s (SetAddress a) = at_address s a
executed m s _ = s

-- the row that an instruction makes of the registers after it
abbrev pub row_of : Registers → Instruction → Option Row
row_of s (Special a) = Some (record { address = s.address; file = s.file; line = s.line; end_sequence = false })
row_of s CopyRow = Some (record { address = s.address; file = s.file; line = s.line; end_sequence = false })
row_of s EndSequence = Some (record { address = s.address; file = s.file; line = s.line; end_sequence = true })
row_of s _ = None

-- the registers begin anew after the end of a sequence
abbrev pub onward : Registers → Instruction → Registers
onward s EndSequence = start
onward s _ = s

-- the row that a step makes or its fault, and the registers after it
abbrev pub stepped : MachineView → Registers → Result StepView LineField → Option (Result Row LineField) × Registers
stepped m s (Err f) = (Some (Err f), s)
stepped m s (Ok t) = (option_map (λ (r : Row). Ok r) (row_of (executed m s t.instruction) t.instruction), onward (executed m s t.instruction) t.instruction)

abbrev pub with_row : Option (Result Row LineField) → List (Result Row LineField) → List (Result Row LineField)
with_row None rows = rows
with_row (Some r) rows = r ∷ rows

-- the rows that steps make, with the fault of a step that has one
unfoldable pub rows_from : MachineView → Registers → List (Result StepView LineField) → List (Result Row LineField)
rows_from m s [] = []
rows_from m s (t ∷ ts) = with_row (stepped m s t).0 (rows_from m (stepped m s t).1 ts)

-- the rows of a table
abbrev pub rows_of : HeaderView → List (Result Row LineField)
rows_of h = rows_from h.machine start (steps_in h.version h.machine h.program)
