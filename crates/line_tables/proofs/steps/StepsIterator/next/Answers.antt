use Rattle.std.proofs.Common.{◌∷◌, length, ap, sym, ◌∙◌, arith}
use Rattle.std.proofs.lemmas.Bool.{eqb-true}
use Rattle.line_tables.specs.Chain.{viewed}
use Rattle.line_tables.specs.HeaderWords.{machine_view}
use Rattle.line_tables.specs.Instructions.{steps_in}
use Rattle.line_tables.specs.RowWords.{step_view}
use Rattle.line_tables.proofs.Shorter.{steps_next, steps_end, some_bytes}
use Rattle.line_tables.proofs.steps.StepsIterator.next.Goals as goal

pub returns-then-is_empty-clause-steps : goal.returns-then-is_empty-clause-steps
returns-then-is_empty-clause-steps c =
    let s = c.args.self.now in
    let none = steps_end s.version (machine_view s.machine) s.rest.now (eqb-true (length s.rest.now) 0 (sym c.if-is_empty.ensures)) in (none, none)

pub returns-clause-steps : goal.returns-clause-steps
returns-clause-steps c =
    let s = c.args.self.now in
    let m = machine_view s.machine in
    steps_next s.version m s.rest.now (viewed step_view c.read-step.result) (some_bytes (length s.rest.now) c.if-is_empty.ensures) c.read-step.ensures
    ∙ ap (λ bytes. viewed step_view c.read-step.result ∷ steps_in s.version m bytes) (sym c.behind_step-self.ensures)

pub returns-clause-goes : goal.returns-clause-goes
returns-clause-goes c =
    let fewer = ap length (returns-clause-steps c) in record { on = λ _. (tt, tt, omega (arith, fewer)); keeps = tt; rests = λ _. tt }
