-- The meaning of the code's iterators over instructions and rows.
use Rattle.std.specs.Prelude.{List, Result}
use Rattle.line_tables.specs.HeaderWords.{machine_view}
use Rattle.line_tables.specs.Instructions.{StepView, steps_in}
use Rattle.line_tables.specs.Rows.{rows_from}
use Rattle.line_tables.specs.declared.faults.LineField.{LineField}
use Rattle.line_tables.specs.declared.instructions.Step.{Step}
use Rattle.line_tables.specs.declared.registers.Row.{Row}
use Rattle.line_tables.specs.declared.rows.Rows.{Rows}
use Rattle.line_tables.specs.declared.steps.Steps.{Steps}

abbrev pub step_view : Step → StepView
step_view s = record { instruction = s.instruction; content = s.content.now; rest = s.rest.now }

-- the instructions that are still to come
abbrev pub steps_left : Steps → List (Result StepView LineField)
steps_left s = steps_in s.version (machine_view s.machine) s.rest.now

-- the rows that are still to come
abbrev pub rows_left : Rows → List (Result Row LineField)
rows_left r = rows_from (machine_view r.machine) r.registers (steps_left r.steps)
