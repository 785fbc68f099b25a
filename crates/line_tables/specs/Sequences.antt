-- The sequences of a line number table, and the row of an address (DWARF 5, 6.2.5.3, DW_LNE_end_sequence, and 6.2.2).
use Rattle.std.specs.Prelude.{ℕ, ◌==◌, ◌&&◌, not, nat_lt, nat_le, if◌then◌else◌, Bool, List, [], ◌∷◌, find, Option, None, Some, Result, Ok, Err}
use Rattle.std.specs.Option.{option_and_then}
use Rattle.line_tables.specs.Chain.{and_then}
use Rattle.line_tables.specs.declared.faults.LineField.{LineField}
use Rattle.line_tables.specs.declared.faults.LineField.TheVariants as fields
use Rattle.line_tables.specs.declared.registers.Row.{Row}

-- a row before the others of its sequence; a sequence with no end is a fault
abbrev pub before : Row → List (List Row) → Result (List (List Row)) LineField
before r [] = Err fields.EndSequence
before r (s ∷ ss) = Ok ((r ∷ s) ∷ ss)

abbrev pub alone : Row → List (List Row) → Result (List (List Row)) LineField
alone r ss = Ok ((r ∷ []) ∷ ss)

-- The rows up to each that ends a sequence, or the first fault: that of an instruction, or that the last sequence has no end.
unfoldable pub sequences_in : List (Result Row LineField) → Result (List (List Row)) LineField
sequences_in [] = Ok []
sequences_in (Err f ∷ rs) = Err f
sequences_in (Ok r ∷ rs) = and_then (sequences_in rs) (if r.end_sequence then alone r else before r)

-- the first address of a sequence, and its end
abbrev pub first_address : List Row → ℕ
first_address [] = 0
first_address (r ∷ rs) = r.address

unfoldable pub last_address : List Row → ℕ
last_address [] = 0
last_address (r ∷ []) = r.address
last_address (r ∷ q ∷ rs) = last_address (q ∷ rs)

-- A sequence covers the addresses from its first row's up to its end's. One from 0 on is that of code that was not linked.
abbrev pub spans : ℕ → ℕ → ℕ → Bool
spans v first last = not (first == 0) && nat_le first v && nat_lt v last

abbrev pub covers : ℕ → List Row → Bool
covers v s = spans v (first_address s) (last_address s)

-- v is at a row or after it, and before the next
abbrev pub crosses : ℕ → Row → Row → Bool
crosses v r q = nat_le r.address v && nat_lt v q.address

-- the first row of a sequence that is so
unfoldable pub row_at : ℕ → List Row → Option Row
row_at v [] = None
row_at v (r ∷ []) = None
row_at v (r ∷ q ∷ rs) = if crosses v r q then Some r else row_at v (q ∷ rs)

-- of the first sequence that covers v
abbrev pub row_among : ℕ → List (List Row) → Option Row
row_among v ss = option_and_then (row_at v) (find (covers v) ss)

abbrev pub row_in : ℕ → List (Result Row LineField) → Result (Option Row) LineField
row_in v rs = and_then (sequences_in rs) (λ ss. Ok (row_among v ss))
