use Rattle.std.proofs.Common.{None, ap, sym, ◌∙◌}
use Rattle.std.specs.Option.{option_map}
use Rattle.line_tables.specs.Finding.{answer}
use Rattle.line_tables.specs.FindingWords.{tables_view, place_view}
use Rattle.line_tables.specs.UnitWords.{unit_view, units_left}
use Rattle.line_tables.proofs.Places.{unit_found, unit_passed, unit_none}
use Rattle.line_tables.proofs.line_tables.LineTables.line_at.Goals as goal

pub returns-in-Some-place : goal.returns-in-Some-place
returns-in-Some-place c =
    c.line.ensures ∙ sym (c.loop-unit.invariant ∙ unit_found (tables_view c.args.self.now) c.args.address c.loop-unit.fault (units_left c.loop-unit.units) (units_left c.next.new.self) (unit_view c.in-Some.unit) (place_view c.in-Some-place.place) c.in-Some.ensures.steps (ap (option_map place_view) (sym c.in-Some-place.is) ∙ c.looked-unit_fault.ensures.place))

pub loop-unit-preserved : goal.loop-unit-preserved
loop-unit-preserved c =
    c.loop-unit.invariant ∙ unit_passed (tables_view c.args.self.now) c.args.address c.loop-unit.fault _ c.looked-unit_fault.result.1 (units_left c.loop-unit.units) (units_left c.next.new.self) (unit_view c.in-Some.unit) c.in-Some.ensures.steps (ap (option_map place_view) (sym c.in_default-place.is) ∙ c.looked-unit_fault.ensures.place) c.looked-unit_fault.ensures.fault c.or-fault.ensures

pub returns-in-Some-fault : goal.returns-in-Some-fault
returns-in-Some-fault c =
    sym (c.loop-unit.invariant ∙ unit_none (tables_view c.args.self.now) c.args.address c.loop-unit.fault (units_left c.loop-unit.units) c.in_default.ensures.steps.0 ∙ ap (answer None) c.in-Some-fault.is)

pub returns-in-None : goal.returns-in-None
returns-in-None c =
    sym (c.loop-unit.invariant ∙ unit_none (tables_view c.args.self.now) c.args.address c.loop-unit.fault (units_left c.loop-unit.units) c.in_default.ensures.steps.0 ∙ ap (answer None) c.in-None.is)
