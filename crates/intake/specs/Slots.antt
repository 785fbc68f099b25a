-- The contents of the slots for streams.
use Rattle.std.specs.Prelude.{ℕ, List, Option, None, map, slice_index_or}

-- the content of a slot, if it has any
abbrev pub stream_at : {X : Type 0} → List (Option X) → ℕ → Option X
stream_at slots slot = slice_index_or slots slot None

-- the same slots with nothing in them
abbrev pub closed : {X : Type 0} → List (Option X) → List (Option X)
closed {X} slots = map (λ (o : Option X). None) slots
