use Rattle.std.proofs.Common.{◌≡◌, take, map, filter}
use Rattle.journal_layout.specs.Case.{case_of}
use Rattle.case_tables.specs.Wanted.{is_wanted}
use Rattle.case_tables.proofs.wanted.find_wanted.Given as goal

abbrev pub invariant-loop-case : goal.invariant-loop-case
invariant-loop-case l = map (λ e. case_of e.now) l.found.items ≡ filter (is_wanted l.wanted) (map case_of (take l.case-index l.cases))
