use Rattle.std.proofs.Common.{◌≡◌}
use Rattle.line_tables.specs.UnitWords.{units_left}
use Rattle.line_tables.specs.UnitFinding as spec
use Rattle.line_tables.specs.UnitFindingWords.{compilations_view}
use Rattle.line_tables.proofs.InfoLoops.{directory_among}
use Rattle.line_tables.proofs.compilations.Compilations.directory.Given as goal

-- the directory is that of the units that are left
abbrev pub invariant-loop-unit : goal.invariant-loop-unit
invariant-loop-unit l =
    spec.directory (compilations_view l.self) l.place ≡ directory_among (compilations_view l.self) l.place (units_left l.units)
