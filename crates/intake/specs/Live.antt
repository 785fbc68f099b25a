-- How often the live cases use a block or a name.
use Rattle.std.specs.Prelude.{ℕ, List, sum_by}
use Rattle.std.specs.List.{count_by}
use Rattle.std.specs.Str.{bytes_eq}
use Rattle.extents.specs.FreeSet.{uses}
use Rattle.journal_layout.specs.Case.{Case}

-- how often the cases use block k
abbrev pub case_uses : List Case → ℕ → ℕ
case_uses cases k = sum_by (λ (c : Case). uses c.blocks k) cases

-- how many of the cases have this name
abbrev pub cases_named : List Case → List ℕ → ℕ
cases_named cases name = count_by (λ (c : Case). bytes_eq c.origin.name name) cases
