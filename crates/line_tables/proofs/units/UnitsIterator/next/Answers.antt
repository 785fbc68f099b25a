use Rattle.std.proofs.Common.{◌∷◌, ◌+◌, ◌-◌, ◌<◌, ◌^◌, rules, length, ap, sym, ◌∙◌, arith}
use Rattle.std.proofs.lemmas.Bool.{eqb-true}
use Rattle.line_tables.specs.Units.{units_from, behind_unit, place_behind, framed}
use Rattle.line_tables.specs.UnitWords.{unit_view}
use Rattle.line_tables.proofs.Shorter.{some_bytes}
use Rattle.line_tables.proofs.UnitPlaces.{behind_fewer, units_next, units_end}
use Rattle.line_tables.proofs.units.UnitsIterator.next.Goals as goal

pub returns-then-is_empty-clause-steps : goal.returns-then-is_empty-clause-steps
returns-then-is_empty-clause-steps c =
    let s = c.args.self.now in
    let none = units_end s.index s.place s.rest.now (eqb-true (length s.rest.now) 0 (sym c.if-is_empty.ensures)) in (none, none)

pub overflow_sub-self : goal.overflow_sub-self
overflow_sub-self c =
    let s = c.args.self.now in
    let less = behind_fewer s.rest.now (some_bytes (length s.rest.now) c.if-is_empty.ensures) in
    let size = ap length c.first.ensures.behind in omega (arith, less, size)

pub returns-clause-steps : goal.returns-clause-steps
returns-clause-steps c =
    let s = c.args.self.now in
    units_next s.index s.place s.rest.now (some_bytes (length s.rest.now) c.if-is_empty.ensures)
    ∙ ap (λ u. u ∷ units_from (s.index + 1) (place_behind s.place s.rest.now) (behind_unit (framed s.rest.now))) (sym c.first.ensures.unit)
    ∙ ap (λ bytes. unit_view c.first.result.0 ∷ units_from (s.index + 1) (s.place + (length s.rest.now - length bytes)) bytes) (sym c.first.ensures.behind)

pub returns-clause-goes : goal.returns-clause-goes
returns-clause-goes c =
    let fewer = ap length (returns-clause-steps c) in record { on = λ _. (tt, tt, omega (arith, fewer)); keeps = tt; rests = λ _. tt }

pub invariant_of-self : goal.invariant_of-self
invariant_of-self c =
    let s = c.args.self.now in
    let less = behind_fewer s.rest.now (some_bytes (length s.rest.now) c.if-is_empty.ensures) in
    let size = ap length c.first.ensures.behind in
    let few : s.index + length s.rest.now < 2 ^ 64 = search rules in
    let within : s.place + length s.rest.now < 2 ^ 64 = search rules in
    record { few = omega (arith, less, size, few); within = omega (arith, less, size, within) }
