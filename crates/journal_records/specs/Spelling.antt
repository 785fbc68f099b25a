-- How a record describes a case.
use Rattle.std.specs.Prelude.{ℕ, Bool}
use Rattle.journal_layout.specs.Case.{Case}

-- the case under this number, pinned or not
abbrev pub stored_as : ℕ → Bool → Case → Case
stored_as seq pinned c = record c { seq = seq; pinned = pinned }
