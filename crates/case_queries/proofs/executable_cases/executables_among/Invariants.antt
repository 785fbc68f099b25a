use Rattle.std.proofs.Common.{◌≡◌, take, map}
use Rattle.journal_layout.specs.Case.{case_of}
use Rattle.case_queries.specs.CollectingWords.{wanted_view}
use Rattle.case_queries.specs.Executables.{executables_in}
use Rattle.case_queries.proofs.executable_cases.executables_among.Given as goal

-- those that went by and are executables
abbrev pub invariant-loop-entry : goal.invariant-loop-entry
invariant-loop-entry l = map wanted_view l.cases.items ≡ executables_in (map case_of (take l.entry-index l.entries))
