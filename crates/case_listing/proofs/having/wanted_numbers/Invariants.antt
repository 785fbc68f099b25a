use Rattle.std.proofs.Common.{◌≡◌, filter, map, take}
use Rattle.journal_layout.specs.Case.{case_of}
use Rattle.case_tables.specs.Wanted.{is_wanted}
use Rattle.case_listing.specs.Having.{number_of}
use Rattle.case_listing.proofs.having.wanted_numbers.Given as goal

abbrev pub invariant-loop-case : goal.invariant-loop-case
invariant-loop-case l = l.numbers.items ≡ map number_of (filter (is_wanted l.wanted) (map case_of (take l.case-index l.cases)))
