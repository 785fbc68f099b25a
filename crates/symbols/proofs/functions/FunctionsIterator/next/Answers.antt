use Rattle.std.proofs.Common.{◌-◌, ◌+◌, ◌∷◌, map, filter, length, sym, ap, ◌∙◌, arith}
use Rattle.std.specs.List.{range_with_len}
use Rattle.symbols.specs.Entry as spec
use Rattle.symbols.proofs.Entries.{found, not_found, no_more}
use Rattle.symbols.proofs.functions.FunctionsIterator.next.Goals as goal

pub returns-in_default-clause-steps : goal.returns-in_default-clause-steps
returns-in_default-clause-steps c =
    let s = c.args.self.now in
    let d = s.entries.now in
    let none = sym c.first_function.ensures.first ∙ c.in_default.is in (
      ap (map (spec.function_at d)) (not_found (spec.is_function d) (range_with_len s.index (s.end - s.index)) none),
      ap (map (spec.function_at d)) (no_more (spec.is_function d) s.end),
    )

pub returns-clause-steps : goal.returns-clause-steps
returns-clause-steps c =
    let s = c.args.self.now in
    let d = s.entries.now in
    let i = c.in-Some.i in
    let rest = map (spec.function_at d) (filter (spec.is_function d) (range_with_len (i + 1) (s.end - (i + 1)))) in
    let first = sym c.first_function.ensures.first ∙ c.in-Some.is in
    let within = c.in-Some.ensures.within in
    ap (map (spec.function_at d)) (found (spec.is_function d) s.index (s.end - s.index) i s.end (omega arith) (omega arith) first)
    ∙ ap (λ f. f ∷ rest) (sym c.function_at-function.ensures)

pub returns-clause-goes : goal.returns-clause-goes
returns-clause-goes c =
    let fewer = ap length (returns-clause-steps c) in record { on = λ _. (tt, tt, omega (arith, fewer)); keeps = tt; rests = λ _. tt }
