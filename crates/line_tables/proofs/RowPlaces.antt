-- The rows that steps make, one by one.
use Rattle.std.proofs.Common.{◌≡◌, List, [], ◌∷◌, Option, Result, ap, ◌∙◌, sym}
use Rattle.line_tables.specs.Header.{MachineView}
use Rattle.line_tables.specs.Instructions.{StepView}
use Rattle.line_tables.specs.Rows.{stepped, with_row, rows_from}
use Rattle.line_tables.specs.declared.faults.LineField.{LineField}
use Rattle.line_tables.specs.declared.registers.Registers.{Registers}
use Rattle.line_tables.specs.declared.registers.Row.{Row}

pub rows_step : (m : MachineView) (s n : Registers) (ss rest : List (Result StepView LineField)) (t : Result StepView LineField) (o : Option (Result Row LineField)) → ss ≡ t ∷ rest → (o, n) ≡ stepped m s t → rows_from m s ss ≡ with_row o (rows_from m n rest)
unfolding rows_from
rows_step m s n ss rest t o is at =
    ap (rows_from m s) is ∙ ap (λ (q : Option (Result Row LineField) × Registers). with_row q.0 (rows_from m q.1 rest)) (sym at)

pub rows_none : (m : MachineView) (s : Registers) (ss : List (Result StepView LineField)) → ss ≡ [] → rows_from m s ss ≡ []
unfolding rows_from
rows_none m s ss is = ap (rows_from m s) is
