-- Which cores are grouped.
use Rattle.std.specs.Prelude.{ℕ, ◌&&◌, Bool, List, filter, map}
use Rattle.journal_layout.specs.Case.{Case}
use Rattle.case_tables.specs.Named.{is_core}
use Rattle.case_tables.specs.Wanted.{is_wanted, last_of}
use Rattle.case_tables.specs.declared.wanted.Wanted.{Wanted}

-- a core that a list with these words shows
abbrev pub is_wanted_core : Wanted → Case → Bool
is_wanted_core w c = is_core c && is_wanted w c

-- the numbers of such cores
abbrev pub all_wanted : Wanted → List Case → List ℕ
all_wanted w cases = map (λ c. c.seq) (filter (is_wanted_core w) cases)

-- Those of the last so many of them, if that is asked.
abbrev pub wanted_cores : Wanted → List Case → List ℕ
wanted_cores w cases = last_of w.last (all_wanted w cases)
