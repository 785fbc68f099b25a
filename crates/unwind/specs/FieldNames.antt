-- The names of the faults in call frame instructions.
use Rattle.std.specs.Prelude.{List, ℕ, codes}
use Rattle.unwind.specs.declared.row_faults.RowField.{RowField}
use Rattle.unwind.specs.declared.row_faults.RowField.TheVariants.{Opcode, Operand, Instructions, RememberState, RestoreState}

abbrev pub row_field_name : RowField → List ℕ
row_field_name Opcode = codes "opcode"
row_field_name Operand = codes "operand"
row_field_name Instructions = codes "instructions"
row_field_name RememberState = codes "remember_state"
row_field_name RestoreState = codes "restore_state"
