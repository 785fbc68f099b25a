use Rattle.std.proofs.Common.{◌≡◌, take, map}
use Rattle.journal_layout.specs.Case.{case_of}
use Rattle.case_tables.specs.Table.{width}
use Rattle.case_tables.proofs.table.width.Given as goal

abbrev pub invariant-loop-case : goal.invariant-loop-case
invariant-loop-case l = l.width ≡ width l.zone l.column (map (λ e. case_of e.now) (take l.case-index l.cases))
