-- The execution of a program, instruction by instruction.
use Rattle.std.proofs.Common.{◌≡◌, ◌<◌, ◌-◌, ℕ, zero, suc, true, false, cond, List, [], ◌∷◌, Result, Ok, Err, length, get_or, refl, ap, ◌∙◌, sym, arith}
use Rattle.elf_view.specs.Field.{field}
use Rattle.unwind.specs.Execution.{Aim, State, Left, left, run, then_do, ends_at, executed}
use Rattle.unwind.specs.Instructions.{StepView, step_in}
use Rattle.unwind.specs.declared.row_faults.RowField.{RowField}
use Rattle.unwind.specs.declared.row_faults.RowField.TheVariants as faults

-- a field of one byte is that byte
pub one_byte : (b : List ℕ) (p : ℕ) → get_or b p 0 ≡ field b p 1
unfolding field
one_byte b p = omega arith

-- nothing is left
pub run_end : (n : ℕ) (aim : Aim) (s : State) (bytes : List ℕ) → length bytes ≡ 0 → run n aim s bytes ≡ Ok (left s.row n)
unfolding run
run_end zero aim s [] h = refl
run_end (suc n) aim s [] h = refl
run_end n aim s (x ∷ xs) h = absurd (omega arith)

-- too many instructions
pub run_over : (n : ℕ) (aim : Aim) (s : State) (bytes : List ℕ) → n ≡ 0 → 0 < length bytes → run n aim s bytes ≡ Err faults.Instructions
unfolding run
run_over zero aim s [] is h = absurd (omega arith)
run_over zero aim s (x ∷ xs) is h = refl
run_over (suc n) aim s bytes is h = absurd (omega arith)

-- what follows an instruction
abbrev pub behind : ℕ → Aim → State → StepView → Result Left RowField
behind n aim s step =
    cond (ends_at aim s step.instruction) (Ok (left s.row n)) (then_do (executed aim s step.instruction) (λ next. run n aim next step.rest))

run_by : (n : ℕ) (aim : Aim) (s : State) (bytes : List ℕ) → 0 < length bytes → run (suc n) aim s bytes ≡ then_do (step_in aim.data_align bytes) (behind n aim s)
unfolding run
run_by n aim s [] h = absurd (omega arith)
run_by n aim s (x ∷ xs) h = refl

-- the instruction at the front
pub run_step : (n : ℕ) (aim : Aim) (s : State) (bytes : List ℕ) (r : Result StepView RowField) → 0 < length bytes → 0 < n → r ≡ step_in aim.data_align bytes → run n aim s bytes ≡ then_do r (behind (n - 1) aim s)
run_step n aim s bytes r h some is =
    let up : n ≡ suc (n - 1) = omega arith in
    ap (λ k. run k aim s bytes) up ∙ run_by (n - 1) aim s bytes h ∙ ap (λ q. then_do q (behind (n - 1) aim s)) (sym is)

pub run_stop : (n : ℕ) (aim : Aim) (s : State) (step : StepView) → true ≡ ends_at aim s step.instruction → behind n aim s step ≡ Ok (left s.row n)
run_stop n aim s step ends =
    ap (λ t. cond t (Ok (left s.row n)) (then_do (executed aim s step.instruction) (λ next. run n aim next step.rest))) (sym ends)

pub run_on : (n : ℕ) (aim : Aim) (s : State) (step : StepView) (r : Result State RowField) → false ≡ ends_at aim s step.instruction → executed aim s step.instruction ≡ r → behind n aim s step ≡ then_do r (λ next. run n aim next step.rest)
run_on n aim s step r goes is =
    ap (λ t. cond t (Ok (left s.row n)) (then_do (executed aim s step.instruction) (λ next. run n aim next step.rest))) (sym goes)
    ∙ ap (λ q. then_do q (λ next. run n aim next step.rest)) is
