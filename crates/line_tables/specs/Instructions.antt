-- The opcodes of a line number program (DWARF 5, 6.2.5 and 7.22).
use Rattle.std.specs.Prelude.{ℕ, zero, suc, ◌-◌, ◌==◌, ◌&&◌, ◌||◌, nat_lt, nat_le, if◌then◌else◌, is_some, List, [], ◌∷◌, length, slice_index, Option, Some, Result, Ok, Err}
use Rattle.std.specs.Option.{option_and_then, option_map}
use Rattle.call_frames.specs.Leb.{uleb, sleb, sized}
use Rattle.elf_view.specs.Field.{field}
use Rattle.line_tables.specs.Chain.{checked, and_then}
use Rattle.line_tables.specs.Entries.{entry, no_strings, file_format}
use Rattle.line_tables.specs.Header.{MachineView}
use Rattle.line_tables.specs.Texts.{first_byte, number}
use Rattle.line_tables.specs.declared.faults.LineField.{LineField}
use Rattle.line_tables.specs.declared.faults.LineField.TheVariants as fields
use Rattle.line_tables.specs.declared.instructions.Instruction.{Instruction}
use Rattle.line_tables.specs.declared.instructions.Instruction.TheVariants as does

-- the bytes after n ULEB128
unfoldable pub behind_numbers : ℕ → List ℕ → Option (List ℕ)
behind_numbers zero bytes = Some bytes
behind_numbers (suc n) bytes = option_and_then (λ v. behind_numbers n v.1) (uleb bytes)

-- The operands of a standard opcode, and the bytes after them: DW_LNS_fixed_advance_pc (9) has two bytes, advance_line (3) an SLEB128,
-- advance_pc (2), set_file (4), set_column (5) and set_isa (12) a ULEB128; copy (1), negate_stmt (6), set_basic_block (7), const_add_pc
-- (8), set_prologue_end (10) and set_epilogue_begin (11) have no operand. An unknown opcode has as many ULEB128 as standard_opcode_lengths
-- says. The operand is 0 if it is not one number.
unfoldable pub standard_operand : List ℕ → ℕ → List ℕ → Option (ℕ × List ℕ)
standard_operand lengths op bytes =
    if op == 9 then number 2 bytes
    else (if op == 3 then sleb bytes
    else (if op == 2 || op == 4 || op == 5 || op == 12 then uleb bytes
    else (if op == 1 || op == 6 || op == 7 || op == 8 || op == 10 || op == 11 then Some (0, bytes)
    else option_map (λ rest. (0, rest)) (behind_numbers (slice_index lengths (op - 1)) bytes))))

-- the instruction of a standard opcode with its operand
abbrev pub standard_of : ℕ → ℕ → Instruction
standard_of op n =
    if op == 1 then does.CopyRow
    else (if op == 2 then does.AdvancePc n
    else (if op == 3 then does.AdvanceLine n
    else (if op == 4 then does.SetFile n
    else (if op == 8 then does.ConstAddPc
    else (if op == 9 then does.FixedAdvancePc n
    else does.Nothing)))))

-- an instruction, the bytes of an extended one after its opcode, and the bytes after it
pub record StepView : Type 0 where
  pub instruction : Instruction
  pub content : List ℕ
  pub rest : List ℕ

abbrev pub step_of : Instruction → List ℕ → List ℕ → StepView
step_of i content rest = record { instruction = i; content = content; rest = rest }

unfoldable pub standard : List ℕ → ℕ → List ℕ → Result StepView LineField
standard lengths op bytes =
    checked (standard_operand lengths op bytes) fields.Operand (λ n. Ok (step_of (standard_of op n.0) [] n.1))

-- DW_LNE_end_sequence (1), set_address (2), which has an address of 8 bytes, and,
-- in versions 2 to 4, define_file (3), which has a file name. Others are ignored.
unfoldable pub extended_of : ℕ → ℕ → List ℕ → Result Instruction LineField
extended_of version op content =
    if op == 1 then Ok does.EndSequence
    else (if op == 2 then (if length content == 8 then Ok (does.SetAddress (field content 0 8)) else Err fields.SetAddress)
    else (if op == 3 && nat_lt version 5 then (if is_some (entry no_strings file_format content) then Ok does.DefineFile else Err fields.Operand)
    else Ok does.Nothing))

-- a length, which counts the opcode and the bytes that belong to it
unfoldable pub extended : ℕ → List ℕ → Result StepView LineField
extended version bytes =
    checked (sized bytes) fields.Length (λ s.
    checked (first_byte s.0) fields.Length (λ c.
    and_then (extended_of version c.0 c.1) (λ i. Ok (step_of i c.1 s.1))))

-- the instruction at the front
abbrev pub step_by : ℕ → MachineView → ℕ → List ℕ → Result StepView LineField
step_by version m op bytes =
    if nat_le m.opcode_base op then Ok (step_of (does.Special (op - m.opcode_base)) [] bytes)
    else (if op == 0 then extended version bytes
    else standard m.opcode_lengths op bytes)

unfoldable pub step_in : ℕ → MachineView → List ℕ → Result StepView LineField
step_in version m [] = Err fields.Operand
step_in version m (x ∷ xs) = step_by version m x xs

-- the bytes that are executed after a step
abbrev pub behind_step : Result StepView LineField → List ℕ
behind_step (Ok s) = s.rest
behind_step (Err f) = []

-- The instructions of a program, one after another, up to its end or to the first
-- with a fault. Each takes at least one byte, so there are at most n in n bytes.
unfoldable pub steps_for : ℕ → ℕ → MachineView → List ℕ → List (Result StepView LineField)
steps_for zero version m bytes = []
steps_for (suc n) version m [] = []
steps_for (suc n) version m (x ∷ xs) =
    step_in version m (x ∷ xs) ∷ steps_for n version m (behind_step (step_in version m (x ∷ xs)))

abbrev pub steps_in : ℕ → MachineView → List ℕ → List (Result StepView LineField)
steps_in version m bytes = steps_for (length bytes) version m bytes
