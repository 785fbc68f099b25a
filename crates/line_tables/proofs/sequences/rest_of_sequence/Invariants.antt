use Rattle.std.proofs.Common.{length}
use Rattle.line_tables.specs.RowWords.{rows_left}
use Rattle.line_tables.proofs.Cuts.{IsRead, rows_with}
use Rattle.line_tables.proofs.sequences.rest_of_sequence.Given as goal

abbrev pub invariant-loop-last : goal.invariant-loop-last
invariant-loop-last l =
    IsRead l.address (rows_with l.first (rows_left l.initial.rows)) l.found (rows_with l.last (rows_left l.rows))

abbrev pub decreases-loop-last : goal.decreases-loop-last
decreases-loop-last l = length (rows_left l.rows)
