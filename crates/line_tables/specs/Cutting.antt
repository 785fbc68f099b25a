-- The first sequence of some rows, and the rows after it.
use Rattle.std.specs.Prelude.{ℕ, if◌then◌else◌, List, [], ◌∷◌, Option, None, Some, Result, Ok, Err}
use Rattle.std.specs.Option.{option_or}
use Rattle.line_tables.specs.Sequences.{covers, crosses, row_at}
use Rattle.line_tables.specs.declared.faults.LineField.{LineField}
use Rattle.line_tables.specs.declared.faults.LineField.TheVariants as fields
use Rattle.line_tables.specs.declared.registers.Row.{Row}

unfoldable pub first_sequence : List (Result Row LineField) → List Row
first_sequence [] = []
first_sequence (Err f ∷ rs) = []
first_sequence (Ok r ∷ rs) = r ∷ (if r.end_sequence then [] else first_sequence rs)

unfoldable pub behind_sequence : List (Result Row LineField) → List (Result Row LineField)
behind_sequence [] = []
behind_sequence (Err f ∷ rs) = []
behind_sequence (Ok r ∷ rs) = if r.end_sequence then rs else behind_sequence rs

-- the fault that prevents it
unfoldable pub sequence_fault : List (Result Row LineField) → Option LineField
sequence_fault [] = Some fields.EndSequence
sequence_fault (Err f ∷ rs) = Some f
sequence_fault (Ok r ∷ rs) = if r.end_sequence then None else sequence_fault rs

-- the row of v in a sequence, if it covers v
abbrev pub covered_row : ℕ → List Row → Option Row
covered_row v s = if covers v s then row_at v s else None

-- the row so far, once one row more is read
abbrev pub crossed : ℕ → Option Row → Row → Row → Option Row
crossed v found r q = option_or found (if crosses v r q then Some r else None)

-- the row of v in the first sequence, and the rows after it; or the fault that prevents it
abbrev pub cut_by : ℕ → List (Result Row LineField) → Option LineField → Result (Option Row × List (Result Row LineField)) LineField
cut_by v rs (Some f) = Err f
cut_by v rs None = Ok (covered_row v (first_sequence rs), behind_sequence rs)

unfoldable pub cut : ℕ → List (Result Row LineField) → Result (Option Row × List (Result Row LineField)) LineField
cut v rs = cut_by v rs (sequence_fault rs)
