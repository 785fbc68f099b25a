-- How call frame instructions make a row (DWARF 5, 6.4.3).
use Rattle.std.specs.Prelude.{ℕ, zero, suc, ◌+◌, ◌-◌, ◌*◌, nat_lt, if◌then◌else◌, Bool, true, false, List, [], ◌∷◌, ◌++◌, length, take, slice_get, Option, None, Some, Result, Ok, Err}
use Rattle.call_frames.specs.Entry.{EntryView}
use Rattle.unwind.specs.Instructions.{step_in}
use Rattle.unwind.specs.Rows.{rule_of, first_row, with_rule, with_cfa}
use Rattle.unwind.specs.declared.row_faults.RowField.{RowField}
use Rattle.unwind.specs.declared.row_faults.RowField.TheVariants as faults
use Rattle.unwind.specs.declared.instructions.Instruction.{Instruction}
use Rattle.unwind.specs.declared.instructions.Instruction.TheVariants.{Advance, Set, Restore, Nothing, RememberState, RestoreState, DefineCfa, CfaRegister, CfaOffset, CfaExpression}
use Rattle.unwind.specs.declared.rows.Row.{Row}

-- The aim of the execution of a program: the alignment factors, the row that restores go back to, and the address whose row is wanted. The
-- program of a CIE has no address, and has no advance.
pub record Aim : Type 0 where
  pub code_align : ℕ
  pub data_align : ℕ
  pub initial : Row
  pub address : Option ℕ

-- the row, those that were remembered, and the location
pub record State : Type 0 where
  pub row : Row
  pub stack : List Row
  pub location : ℕ

-- a program begins at a location with a row, and nothing is remembered
abbrev pub start : Row → ℕ → State
start row location = record { row = row; stack = []; location = location }

abbrev pub with_row : State → Row → State
with_row s row = record { row = row; stack = s.stack; location = s.location }

-- the location once it is advanced
abbrev pub advanced : Aim → State → ℕ → ℕ
advanced aim s d = s.location + d * aim.code_align

-- an advance that makes the location more than the address ends the execution
abbrev pub is_beyond : Option ℕ → ℕ → Bool
is_beyond None location = false
is_beyond (Some v) location = nat_lt v location

abbrev pub ends_at : Aim → State → Instruction → Bool
ends_at aim s (Advance d) = is_beyond aim.address (advanced aim s d)
ends_at aim s _ = false

abbrev pub at_location : State → ℕ → State
at_location s location = record { row = s.row; stack = s.stack; location = location }

-- an advance, if there is an address
abbrev pub advance_to : Option ℕ → State → ℕ → Result State RowField
advance_to None s location = Err faults.Opcode
advance_to (Some v) s location = Ok (at_location s location)

-- at most eight rows are remembered
abbrev pub remembered : State → Result State RowField
remembered s =
    if nat_lt (length s.stack) 8 then Ok (record { row = s.row; stack = s.stack ++ s.row ∷ []; location = s.location })
    else Err faults.RememberState

abbrev pub restored : State → Option Row → Result State RowField
restored s None = Err faults.RestoreState
restored s (Some row) = Ok (record { row = row; stack = take (length s.stack - 1) s.stack; location = s.location })

-- the row that was remembered last
abbrev pub last_row : State → Option Row
last_row s = slice_get s.stack (length s.stack - 1)

-- an instruction executed
abbrev pub executed : Aim → State → Instruction → Result State RowField
executed aim s (Advance d) = advance_to aim.address s (advanced aim s d)
executed aim s (Set c rule) = Ok (with_row s (with_rule s.row c rule))
executed aim s (Restore c) = Ok (with_row s (with_rule s.row c (rule_of aim.initial.rules c)))
executed aim s Nothing = Ok s
executed aim s RememberState = remembered s
executed aim s RestoreState = restored s (last_row s)
executed aim s (DefineCfa c offset) = Ok (with_row s (with_cfa s.row c offset false))
executed aim s (CfaRegister c) = Ok (with_row s (with_cfa s.row c s.row.cfa.offset false))
executed aim s (CfaOffset offset) = Ok (with_row s (with_cfa s.row s.row.cfa.column offset s.row.cfa.expression))
executed aim s CfaExpression = Ok (with_row s (with_cfa s.row s.row.cfa.column s.row.cfa.offset true))

-- the row that a program leaves, and how many more instructions may be executed
pub record Left : Type 0 where
  pub row : Row
  pub count : ℕ

abbrev pub left : Row → ℕ → Left
left row count = record { row = row; count = count }

abbrev pub then_do : {A B : Type 0} → Result A RowField → (A → Result B RowField) → Result B RowField
then_do (Ok x) next = next x
then_do (Err f) next = Err f

-- A program is executed up to its end, or up to the first advance beyond the address.
-- At most so many instructions are executed; one more instruction is a fault.
unfoldable pub run : ℕ → Aim → State → List ℕ → Result Left RowField
run count aim s [] = Ok (left s.row count)
run zero aim s (x ∷ xs) = Err faults.Instructions
run (suc count) aim s (x ∷ xs) =
    then_do (step_in aim.data_align (x ∷ xs)) (λ step.
    if ends_at aim s step.instruction then Ok (left s.row count)
    else then_do (executed aim s step.instruction) (λ next. run count aim next step.rest))

-- how many instructions both programs may have
abbrev pub limit : ℕ
limit = 65536

-- the program of a CIE is executed on the first row
abbrev pub cie_aim : EntryView → Aim
cie_aim e = record {
  code_align = e.cie.code_align;
  data_align = e.cie.data_align;
  initial = first_row e.cie.column;
  address = None;
}

-- the program of an FDE on the row that it leaves
abbrev pub fde_aim : EntryView → Row → ℕ → Aim
fde_aim e initial v = record {
  code_align = e.cie.code_align;
  data_align = e.cie.data_align;
  initial = initial;
  address = Some v;
}

-- the row of an address that an FDE covers
unfoldable pub row_of : EntryView → ℕ → Result Row RowField
row_of e v =
    then_do (run limit (cie_aim e) (start (first_row e.cie.column) 0) e.cie.program) (λ first.
    then_do (run first.count (fde_aim e first.row v) (start first.row e.begin) e.program) (λ last.
    Ok last.row))
