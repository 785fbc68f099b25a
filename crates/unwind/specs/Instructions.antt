-- Call frame instructions (DWARF 5, 6.4.2 and 7.24; DW_CFA_GNU_args_size of the LSB).
use Rattle.std.specs.Prelude.{ℕ, ◌*◌, ◌/◌, ◌%◌, ◌^◌, ◌==◌, ◌||◌, nat_lt, nat_le, if◌then◌else◌, List, [], ◌∷◌, length, drop, Option, None, Some, Result, Ok, Err}
use Rattle.std.specs.Option.{option_and_then, option_map}
use Rattle.elf_view.specs.Field.{field}
use Rattle.call_frames.specs.Leb.{uleb, sleb, sized}
use Rattle.unwind.specs.declared.row_faults.RowField.{RowField}
use Rattle.unwind.specs.declared.row_faults.RowField.TheVariants as faults
use Rattle.unwind.specs.declared.instructions.Instruction.{Instruction}
use Rattle.unwind.specs.declared.instructions.Instruction.TheVariants.{Advance, Set, Restore, Nothing, RememberState, RestoreState, DefineCfa, CfaRegister, CfaOffset, CfaExpression}
use Rattle.unwind.specs.declared.operands.Shape.{Shape}
use Rattle.unwind.specs.declared.operands.Shape.TheVariants as shapes
use Rattle.unwind.specs.declared.rows.Rule.TheVariants as rules

-- The operands of an opcode: nothing, a ULEB128, an SLEB128, two of the first, one of each, a block, a ULEB128 and a block, or a number of
-- 1, 2 or 4 bytes. The highest two bits are DW_CFA_advance_loc (1), offset (2) and restore (3).
abbrev pub shape_below : ℕ → Option Shape
shape_below x =
    if x == 0x00 || x == 0x0a || x == 0x0b then Some shapes.Nothing
    else (if x == 0x06 || x == 0x07 || x == 0x08 || x == 0x0d || x == 0x0e || x == 0x2e then Some shapes.Unsigned
    else (if x == 0x13 then Some shapes.Signed
    else (if x == 0x05 || x == 0x09 || x == 0x0c || x == 0x14 then Some shapes.TwoUnsigned
    else (if x == 0x11 || x == 0x12 || x == 0x15 then Some shapes.UnsignedSigned
    else (if x == 0x0f then Some shapes.Block
    else (if x == 0x10 || x == 0x16 then Some shapes.UnsignedBlock
    else (if x == 0x02 then Some shapes.OneByte
    else (if x == 0x03 then Some shapes.TwoBytes
    else (if x == 0x04 then Some shapes.FourBytes
    else None)))))))))

unfoldable pub shape_of : ℕ → Option Shape
shape_of x = if nat_lt x 64 then shape_below x else (if x / 64 == 2 then Some shapes.Unsigned else Some shapes.Nothing)

-- the numbers among the operands, 0 for a missing one, and the bytes after them
pub record OperandsView : Type 0 where
  pub first : ℕ
  pub second : ℕ
  pub rest : List ℕ

abbrev pub no_operands : List ℕ → OperandsView
no_operands bytes = record { first = 0; second = 0; rest = bytes }

abbrev pub one_operand : ℕ × List ℕ → OperandsView
one_operand n = record { first = n.0; second = 0; rest = n.1 }

abbrev pub two_operands : ℕ → ℕ × List ℕ → OperandsView
two_operands first n = record { first = first; second = n.0; rest = n.1 }

abbrev pub behind_block : ℕ → List ℕ × List ℕ → OperandsView
behind_block first parts = record { first = first; second = 0; rest = parts.1 }

abbrev pub fixed : ℕ → List ℕ → Option OperandsView
fixed w bytes =
    if nat_le w (length bytes) then Some (record { first = field bytes 0 w; second = 0; rest = drop w bytes }) else None

-- the operand after a column: a ULEB128, an SLEB128, or a block
abbrev pub behind_column : Shape → ℕ × List ℕ → Option OperandsView
behind_column shapes.TwoUnsigned n = option_map (two_operands n.0) (uleb n.1)
behind_column shapes.UnsignedSigned n = option_map (two_operands n.0) (sleb n.1)
behind_column _ n = option_map (behind_block n.0) (sized n.1)

abbrev pub column_operands : Shape → List ℕ → Option OperandsView
column_operands shape bytes = option_and_then (behind_column shape) (uleb bytes)

unfoldable pub operands_in : Shape → List ℕ → Option OperandsView
operands_in shapes.Nothing bytes = Some (no_operands bytes)
operands_in shapes.Unsigned bytes = option_map one_operand (uleb bytes)
operands_in shapes.Signed bytes = option_map one_operand (sleb bytes)
operands_in shapes.TwoUnsigned bytes = column_operands shapes.TwoUnsigned bytes
operands_in shapes.UnsignedSigned bytes = column_operands shapes.UnsignedSigned bytes
operands_in shapes.Block bytes = option_map (behind_block 0) (sized bytes)
operands_in shapes.UnsignedBlock bytes = column_operands shapes.UnsignedBlock bytes
operands_in shapes.OneByte bytes = fixed 1 bytes
operands_in shapes.TwoBytes bytes = fixed 2 bytes
operands_in shapes.FourBytes bytes = fixed 4 bytes

-- a factored operand times data_alignment_factor, both modulo 2^64, as the product is
abbrev pub factored : ℕ → ℕ → ℕ
factored align n = n * align % 2 ^ 64

-- DW_CFA_nop, advance_loc1, 2 and 4, offset_extended, restore_extended, undefined, same_value, register, remember_state,
-- restore_state, def_cfa, def_cfa_register, def_cfa_offset, def_cfa_expression, expression, offset_extended_sf, def_cfa_sf,
-- def_cfa_offset_sf, val_offset, val_offset_sf, val_expression, and GNU_args_size, which changes nothing
abbrev pub instruction_below : ℕ → ℕ → ℕ → ℕ → Instruction
instruction_below align x a b =
    if x == 0x02 || x == 0x03 || x == 0x04 then Advance a
    else (if x == 0x05 || x == 0x11 then Set a (rules.Offset (factored align b))
    else (if x == 0x06 then Restore a
    else (if x == 0x07 then Set a rules.Undefined
    else (if x == 0x08 then Set a rules.Same
    else (if x == 0x09 then Set a (rules.Register b)
    else (if x == 0x0a then RememberState
    else (if x == 0x0b then RestoreState
    else (if x == 0x0c then DefineCfa a b
    else (if x == 0x0d then CfaRegister a
    else (if x == 0x0e then CfaOffset a
    else (if x == 0x0f then CfaExpression
    else (if x == 0x10 || x == 0x16 then Set a rules.Expression
    else (if x == 0x12 then DefineCfa a (factored align b)
    else (if x == 0x13 then CfaOffset (factored align a)
    else (if x == 0x14 || x == 0x15 then Set a (rules.Value (factored align b))
    else Nothing)))))))))))))))

-- the operation of an opcode below 0x80, with these operands; the lowest six bits of the others are an operand
unfoldable pub instruction_of : ℕ → ℕ → ℕ → ℕ → Instruction
instruction_of align x a b =
    if nat_lt x 64 then instruction_below align x a b
    else (if x / 64 == 1 then Advance (x % 64)
    else (if x / 64 == 2 then Set (x % 64) (rules.Offset (factored align a))
    else Restore (x % 64)))

-- an instruction, and the bytes after it
pub record StepView : Type 0 where
  pub instruction : Instruction
  pub rest : List ℕ

abbrev pub step_of : ℕ → ℕ → Option OperandsView → Result StepView RowField
step_of align x None = Err faults.Operand
step_of align x (Some o) = Ok (record { instruction = instruction_of align x o.first o.second; rest = o.rest })

abbrev pub step_by : ℕ → ℕ → List ℕ → Option Shape → Result StepView RowField
step_by align x bytes None = Err faults.Opcode
step_by align x bytes (Some shape) = step_of align x (operands_in shape bytes)

-- the instruction at the front
unfoldable pub step_in : ℕ → List ℕ → Result StepView RowField
step_in align [] = Err faults.Opcode
step_in align (x ∷ xs) = step_by align x xs (shape_of x)
