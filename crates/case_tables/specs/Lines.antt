-- The cases of an archive as lines of JSON.
use Rattle.std.specs.Prelude.{ℕ, List, [], ◌∷◌, ◌++◌}
use Rattle.serde_json.specs.Written.{compact_text}
use Rattle.journal_layout.specs.Case.{Case}
use Rattle.case_tables.specs.Hidden.{printed_json}
use Rattle.case_tables.specs.Json.{case_json}

-- A case's object as JSON without a space between its parts, as it is printed, and a line break. A text within it has no line break as it is.
abbrev pub case_line : Case → List ℕ
case_line c = printed_json (compact_text (case_json c)) ++ 10 ∷ []
