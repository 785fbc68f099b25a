-- The meaning of the code's sections.
use Rattle.line_tables.specs.UnitFinding.{CompilationsView}
use Rattle.line_tables.specs.declared.compilations.Compilations.{Compilations}

abbrev pub compilations_view : Compilations → CompilationsView
compilations_view c = record { debug_info = c.debug_info.now; debug_abbrev = c.debug_abbrev.now; debug_str = c.debug_str.now }
