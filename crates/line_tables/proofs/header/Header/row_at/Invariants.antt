use Rattle.std.proofs.Common.{◌≡◌}
use Rattle.line_tables.specs.HeaderWords.{header_view}
use Rattle.line_tables.specs.RowWords.{rows_left}
use Rattle.line_tables.specs.Rows.{rows_of}
use Rattle.line_tables.specs.Sequences as spec
use Rattle.line_tables.proofs.Crossing.{with_found}
use Rattle.line_tables.proofs.header.Header.row_at.Given as goal

-- the row of all is the one so far, or that of the rows that are left
abbrev pub invariant-loop-first : goal.invariant-loop-first
invariant-loop-first l =
    spec.row_in l.address (rows_of (header_view l.self)) ≡ with_found l.found (spec.row_in l.address (rows_left l.rows))
