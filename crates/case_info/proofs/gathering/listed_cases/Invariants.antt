use Rattle.std.proofs.Common.{◌≡◌, map, take}
use Rattle.journal_layout.specs.Case.{case_of}
use Rattle.case_info.specs.Gathering.{case_value, listed_view}
use Rattle.case_info.proofs.gathering.listed_cases.Given as goal

-- those that went by are known
abbrev pub invariant-loop-entry : goal.invariant-loop-entry
invariant-loop-entry l = map listed_view l.cases.items ≡ map case_value (map case_of (take l.entry-index l.entries))
