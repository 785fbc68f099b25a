-- The meaning of the code's units.
use Rattle.std.specs.Prelude.{List}
use Rattle.std.specs.Option.{option_map}
use Rattle.line_tables.specs.Units.{UnitView, units_from}
use Rattle.line_tables.specs.declared.units.Unit.{Unit}
use Rattle.line_tables.specs.declared.units.Units.{Units}

abbrev pub unit_view : Unit → UnitView
unit_view u = record { index = u.index; place = u.place; bytes = option_map (λ b. b.now) u.bytes }

-- the units that are still to come
abbrev pub units_left : Units → List UnitView
units_left u = units_from u.index u.place u.rest.now
