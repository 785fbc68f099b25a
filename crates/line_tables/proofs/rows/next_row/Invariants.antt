use Rattle.std.proofs.Common.{◌≡◌}
use Rattle.line_tables.specs.HeaderWords.{machine_view}
use Rattle.line_tables.specs.RowWords.{steps_left}
use Rattle.line_tables.specs.Rows as spec
use Rattle.line_tables.proofs.rows.next_row.Given as goal

-- the steps that were passed made no row
abbrev pub invariant-loop-step : goal.invariant-loop-step
invariant-loop-step l =
    spec.rows_from (machine_view l.machine) l.initial.registers (steps_left l.initial.steps) ≡ spec.rows_from (machine_view l.machine) l.registers (steps_left l.steps)
