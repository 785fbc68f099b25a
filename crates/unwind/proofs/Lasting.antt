-- A row lasts up to the location that ends its execution.
use Rattle.std.proofs.Common.{◌≡◌, ◌<◌, ◌≤◌, ℕ, zero, suc, Bool, true, false, cond, List, [], ◌∷◌, Option, Some, Result, Ok, Err, IfSome, ltb, refl, ap, ◌∙◌, sym, arith}
use Rattle.std.proofs.lemmas.Bool.{ltb-false, lt-ltb, le-ltb}
use Rattle.std.specs.Option.{option_and_then}
use Rattle.std.specs.Result.{result_ok}
use Rattle.call_frames.specs.Entry.{EntryView}
use Rattle.unwind.specs.Execution.{Aim, State, Left, left, start, advanced, ends_at, executed, run, then_do, row_of, limit, cie_aim, fde_aim}
use Rattle.unwind.specs.Instructions.{StepView, step_in}
use Rattle.unwind.specs.Locations.{location_of, end_location, end_behind, row_end}
use Rattle.unwind.specs.Rows.{first_row}
use Rattle.unwind.specs.declared.row_faults.RowField.{RowField}
use Rattle.unwind.specs.declared.instructions.Instruction.{Instruction}
use Rattle.unwind.specs.declared.instructions.Instruction.TheVariants.{Advance}
use Rattle.unwind.specs.declared.rows.Row.{Row}
use Rattle.unwind.proofs.Running.{behind}

-- the same aim for an address
abbrev aim_at : ℕ → ℕ → Row → ℕ → Aim
aim_at code align initial v = record { code_align = code; data_align = align; initial = initial; address = Some v }

-- beyond one address and beyond a greater one, but for the locations between
beyond : (v w l : ℕ) (t : Bool) → v ≤ w → ltb v l ≡ t → (t ≡ true → w < l) → ltb w l ≡ t
beyond v w l true low is far =
    let h = far refl in lt-ltb w l h
beyond v w l false low is far =
    let h = ltb-false v l is in le-ltb w l (omega arith)

module _ (code align : ℕ) (initial : Row) (v w : ℕ) (low : v ≤ w) where
  abbrev near : Aim
  near = aim_at code align initial v

  abbrev far : Aim
  far = aim_at code align initial w

  same_end : (s : State) (i : Instruction) (t : Bool) → ends_at near s i ≡ t → (t ≡ true → w < location_of near s i) → ends_at far s i ≡ t
  same_end s (Advance d) t is h = beyond v w (advanced near s d) t low is h
  same_end s _ t is h = is

  same_executed : (s : State) (i : Instruction) → executed far s i ≡ executed near s i
  same_executed s (Advance d) = refl
  same_executed s _ = refl

  -- what follows an instruction, if what follows it there is the same
  same_after : (n : ℕ) (s : State) (step : StepView) (r : Result State RowField) → ((t : State) (bytes : List ℕ) → IfSome (end_location n near t bytes) (λ l. w < l) → run n far t bytes ≡ run n near t bytes) → IfSome (option_and_then (λ next. end_location n near next step.rest) (result_ok r)) (λ l. w < l) → then_do r (λ next. run n far next step.rest) ≡ then_do r (λ next. run n near next step.rest)
  same_after n s step (Ok next) ih h = ih next step.rest h
  same_after n s step (Err f) ih h = refl

  same_step : (n : ℕ) (s : State) (step : StepView) (t : Bool) → ((t : State) (bytes : List ℕ) → IfSome (end_location n near t bytes) (λ l. w < l) → run n far t bytes ≡ run n near t bytes) → ends_at near s step.instruction ≡ t → IfSome (cond t (Some (location_of near s step.instruction)) (option_and_then (λ next. end_location n near next step.rest) (result_ok (executed near s step.instruction)))) (λ l. w < l) → behind n far s step ≡ behind n near s step
  same_step n s step true ih is h =
      ap (λ u. cond u (Ok (left s.row n)) (then_do (executed far s step.instruction) (λ next. run n far next step.rest))) (same_end s step.instruction true is (λ _. h))
      ∙ sym (ap (λ u. cond u (Ok (left s.row n)) (then_do (executed near s step.instruction) (λ next. run n near next step.rest))) is)
  same_step n s step false ih is h =
      ap (λ u. cond u (Ok (left s.row n)) (then_do (executed far s step.instruction) (λ next. run n far next step.rest))) (same_end s step.instruction false is (λ e. cc))
      ∙ ap (λ r. then_do r (λ next. run n far next step.rest)) (same_executed s step.instruction)
      ∙ same_after n s step (executed near s step.instruction) ih h
      ∙ sym (ap (λ u. cond u (Ok (left s.row n)) (then_do (executed near s step.instruction) (λ next. run n near next step.rest))) is)

  abbrev end_by : ℕ → State → StepView → Option ℕ
  end_by n s step =
      cond (ends_at near s step.instruction) (Some (location_of near s step.instruction)) (option_and_then (λ next. end_location n near next step.rest) (result_ok (executed near s step.instruction)))

  same_read : (n : ℕ) (s : State) (r : Result StepView RowField) → ((t : State) (bytes : List ℕ) → IfSome (end_location n near t bytes) (λ l. w < l) → run n far t bytes ≡ run n near t bytes) → IfSome (option_and_then (end_by n s) (result_ok r)) (λ l. w < l) → then_do r (behind n far s) ≡ then_do r (behind n near s)
  same_read n s (Ok step) ih h = same_step n s step (ends_at near s step.instruction) ih refl h
  same_read n s (Err f) ih h = refl

  same_run : (n : ℕ) (s : State) (bytes : List ℕ) → IfSome (end_location n near s bytes) (λ l. w < l) → run n far s bytes ≡ run n near s bytes
  unfolding run end_location
  same_run zero s [] h = refl
  same_run zero s (x ∷ xs) h = refl
  same_run (suc n) s [] h = refl
  same_run (suc n) s (x ∷ xs) h = same_read n s (step_in align (x ∷ xs)) (same_run n) h

lasts_behind : (e : EntryView) (v w : ℕ) (r : Result Left RowField) → v ≤ w → IfSome (option_and_then (end_behind e v) (result_ok r)) (λ l. w < l) → then_do r (λ first. then_do (run first.count (fde_aim e first.row w) (start first.row e.begin) e.program) (λ last. Ok last.row)) ≡ then_do r (λ first. then_do (run first.count (fde_aim e first.row v) (start first.row e.begin) e.program) (λ last. Ok last.row))
lasts_behind e v w (Ok first) low h =
    ap (λ q. then_do q (λ (last : Left). Ok last.row)) (same_run e.cie.code_align e.cie.data_align first.row v w low first.count (start first.row e.begin) e.program h)
lasts_behind e v w (Err f) low h = refl

pub row_lasts : (e : EntryView) (v w : ℕ) → v ≤ w → IfSome (row_end e v) (λ l. w < l) → row_of e w ≡ row_of e v
unfolding row_of row_end
row_lasts e v w low h =
    lasts_behind e v w (run limit (cie_aim e) (start (first_row e.cie.column) 0) e.cie.program) low h
