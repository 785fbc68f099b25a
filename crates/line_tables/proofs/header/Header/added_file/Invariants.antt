use Rattle.std.proofs.Common.{◌≡◌, slice_get}
use Rattle.line_tables.specs.Files as spec
use Rattle.line_tables.specs.HeaderWords.{header_view}
use Rattle.line_tables.specs.RowWords.{steps_left}
use Rattle.line_tables.proofs.header.Header.added_file.Given as goal

-- the file name of all is that of the steps that are left
abbrev pub invariant-loop-step : goal.invariant-loop-step
invariant-loop-step l =
    slice_get (spec.added_files (header_view l.self)) l.number ≡ slice_get (spec.added_among (steps_left l.steps)) l.left
