-- The executables of an archive, looked up by name without its cores.
use Rattle.std.specs.Prelude.{ℕ, Bool, List, filter, map}
use Rattle.build_replies.specs.NameWords.{is_one_of}
use Rattle.journal_layout.specs.Case.{Case}
use Rattle.case_queries.specs.Collecting.{Wanted, is_exec, wanted_case}

abbrev pub is_executable_case : Case → Bool
is_executable_case c = is_exec c.origin.kind

-- the executables, in the order of the cases
abbrev pub executables_in : List Case → List Wanted
executables_in cases = map wanted_case (filter is_executable_case cases)

abbrev pub has_name_of : List (List ℕ) → Wanted → Bool
has_name_of names w = is_one_of names w.1

-- those of them that have these names
abbrev pub named_of : List (List ℕ) → List Wanted → List Wanted
named_of names ws = filter (has_name_of names) ws
