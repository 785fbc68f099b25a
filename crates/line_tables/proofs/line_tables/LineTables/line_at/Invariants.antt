use Rattle.std.proofs.Common.{◌≡◌}
use Rattle.line_tables.specs.Finding as spec
use Rattle.line_tables.specs.FindingWords.{tables_view}
use Rattle.line_tables.specs.UnitWords.{units_left}
use Rattle.line_tables.proofs.Places.{answer_of}
use Rattle.line_tables.proofs.line_tables.LineTables.line_at.Given as goal

-- what is answered of all is that of the units that are left, with the fault of those that were passed
abbrev pub invariant-loop-unit : goal.invariant-loop-unit
invariant-loop-unit l =
    spec.line_at (tables_view l.self) l.address ≡ answer_of (tables_view l.self) l.address l.fault (units_left l.units)
