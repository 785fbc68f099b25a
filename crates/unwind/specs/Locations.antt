-- The location at which the execution of a program ends, and thus the end of a row's range.
use Rattle.std.specs.Prelude.{ℕ, zero, suc, if◌then◌else◌, List, [], ◌∷◌, Option, None, Some}
use Rattle.std.specs.Option.{option_and_then}
use Rattle.std.specs.Result.{result_ok}
use Rattle.call_frames.specs.Entry.{EntryView}
use Rattle.unwind.specs.Execution.{Aim, State, Left, start, advanced, ends_at, executed, run, limit, cie_aim, fde_aim}
use Rattle.unwind.specs.Instructions.{StepView, step_in}
use Rattle.unwind.specs.Rows.{first_row}
use Rattle.unwind.specs.declared.instructions.Instruction.{Instruction}
use Rattle.unwind.specs.declared.instructions.Instruction.TheVariants.{Advance}

-- the location once an instruction is executed
abbrev pub location_of : Aim → State → Instruction → ℕ
location_of aim s (Advance d) = advanced aim s d
location_of aim s _ = s.location

-- the location beyond the address that ends an execution; none if the program ends before, or has a fault
unfoldable pub end_location : ℕ → Aim → State → List ℕ → Option ℕ
end_location count aim s [] = None
end_location zero aim s (x ∷ xs) = None
end_location (suc count) aim s (x ∷ xs) =
    option_and_then (λ (step : StepView).
    if ends_at aim s step.instruction then Some (location_of aim s step.instruction)
    else option_and_then (λ next. end_location count aim next step.rest) (result_ok (executed aim s step.instruction)))
    (result_ok (step_in aim.data_align (x ∷ xs)))

-- the same of an entry: the address from which on another row may hold than at v
abbrev pub end_behind : EntryView → ℕ → Left → Option ℕ
end_behind e v first = end_location first.count (fde_aim e first.row v) (start first.row e.begin) e.program

unfoldable pub row_end : EntryView → ℕ → Option ℕ
row_end e v =
    option_and_then (end_behind e v) (result_ok (run limit (cie_aim e) (start (first_row e.cie.column) 0) e.cie.program))
