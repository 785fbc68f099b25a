-- The meaning of all records of a journal together: its cases and the number of the next one.
use Rattle.std.specs.Prelude.{ℕ, ◌+◌, Bool, not, List, [], ◌∷◌, ◌++◌, map, if◌then◌else◌, ◌==◌, nat_eq, Option, Some, None}
use Rattle.std.specs.List.{filter, list_any, flat_map}
use Rattle.std.specs.Str.{bytes_eq}
use Rattle.journal_layout.specs.Case.{Case}
use Rattle.journal_layout.specs.Record.{Record, Store, Drop, Pin, Next, Label, record_size}

pub record Folded : Type 0 where
  -- of the layout that they are in
  pub version : ℕ
  -- in the order of their numbers
  pub cases : List Case
  -- the number of the next case
  pub next : ℕ

-- before the first record of a half of this version
abbrev pub nothing_yet : ℕ → Folded
nothing_yet version = record { version = version; cases = []; next = 1 }

-- the number is one of these
abbrev pub is_among : List ℕ → ℕ → Bool
is_among seqs seq = list_any (nat_eq seq) seqs

-- without the cases that have these numbers
abbrev pub dropped : List ℕ → List Case → List Case
dropped seqs cases = filter (λ (c : Case). not (is_among seqs c.seq)) cases

-- the case, with this pin flag if it has this number
abbrev pub pinned_as : ℕ → Bool → Case → Case
pinned_as seq flag c = if c.seq == seq then record c { pinned = flag } else c

abbrev pub with_pin : ℕ → Bool → List Case → List Case
with_pin seq flag cases = map (pinned_as seq flag) cases

-- the case, with this label if it has this number
abbrev pub labelled_as : ℕ → List ℕ → Case → Case
labelled_as seq text c = if c.seq == seq then record c { label = text } else c

abbrev pub with_label : ℕ → List ℕ → List Case → List Case
with_label seq text cases = map (labelled_as seq text) cases

-- the cases, and the next number, once a record more is read
abbrev pub cases_after : Record → Folded → List Case
cases_after (Store c) f = f.cases ++ c ∷ []
cases_after (Drop seqs) f = dropped seqs f.cases
cases_after (Pin seq flag) f = with_pin seq flag f.cases
cases_after (Next n) f = f.cases
cases_after (Label seq text) f = with_label seq text f.cases

abbrev pub next_after : Record → Folded → ℕ
next_after (Store c) f = c.seq + 1
next_after (Drop seqs) f = f.next
next_after (Pin seq flag) f = f.next
next_after (Next n) f = n
next_after (Label seq text) f = f.next

-- the cases and the next number after one more record
abbrev pub after : Record → Folded → Folded
after r f = record f { cases = cases_after r f; next = next_after r f }

-- the same of a list of records, one after the other
abbrev pub replayed : List Record → Folded → Folded
replayed [] f = f
replayed (r ∷ rest) f = replayed rest (after r f)

-- the bytes of a list of records
abbrev pub sizes : List Record → ℕ
sizes [] = 0
sizes (r ∷ rest) = record_size r + sizes rest

-- the start of the last record once these are read from a place on; the start of the one before them is given, if there is one
abbrev pub last_from : List Record → ℕ → Option ℕ → Option ℕ
last_from [] at last = last
last_from (r ∷ rest) at last = last_from rest (at + record_size r) (Some at)

-- the start of the last of a list of records, if there is one
abbrev pub last_start : List Record → Option ℕ
last_start records = last_from records 0 None

-- the blocks of the cases
abbrev pub used_blocks : List Case → List ℕ
used_blocks cases = flat_map (λ (c : Case). c.blocks) cases

-- some case has this name
abbrev pub is_name_of : List Case → List ℕ → Bool
is_name_of cases name = list_any (λ (c : Case). bytes_eq c.origin.name name) cases
