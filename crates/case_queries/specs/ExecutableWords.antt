-- The meaning of the code's table of an archive's executables.
use Rattle.std.specs.Prelude.{◌≡◌, List, map}
use Rattle.journal_layout.specs.Case.{Case}
use Rattle.case_queries.specs.CollectingWords.{wanted_view}
use Rattle.case_queries.specs.Executables.{executables_in}
use Rattle.case_queries.specs.declared.executable_cases.ExecutableCases.{ExecutableCases}

-- they are the executables of these cases
abbrev pub AreOf : List Case → ExecutableCases → Type 0
AreOf cases x = map wanted_view x.cases.items ≡ executables_in cases
