-- The meaning of the code's operands, instructions and states.
use Rattle.std.specs.Prelude.{Result, Ok, Err}
use Rattle.unwind.specs.Execution.{Aim, State}
use Rattle.unwind.specs.Instructions.{OperandsView, StepView}
use Rattle.unwind.specs.declared.execution.Target.{Target}
use Rattle.unwind.specs.declared.execution.Machine.{Machine}
use Rattle.unwind.specs.declared.row_faults.RowField.{RowField}
use Rattle.unwind.specs.declared.instructions.Step.{Step}
use Rattle.unwind.specs.declared.operands.Operands.{Operands}

abbrev pub operands_view : Operands → OperandsView
operands_view o = record { first = o.first; second = o.second; rest = o.rest.now }

abbrev pub step_view : Step → StepView
step_view s = record { instruction = s.instruction; rest = s.rest.now }

-- a result of the code as one of the definitions
abbrev pub viewed : {A B : Type 0} → (A → B) → Result A RowField → Result B RowField
viewed view (Ok x) = Ok (view x)
viewed view (Err f) = Err f

abbrev pub aim_of : Target → Aim
aim_of t = record { code_align = t.code_align; data_align = t.data_align; initial = t.initial; address = t.address }

abbrev pub state_of : Machine → State
state_of m = record { row = m.row; stack = m.stack.items; location = m.location }
