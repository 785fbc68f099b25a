-- Which FDE describes an address: the first in the order of the section that covers it.
use Rattle.std.specs.Prelude.{ℕ, ◌+◌, ◌-◌, ◌^◌, ◌&&◌, nat_lt, nat_le, min, max, if◌then◌else◌, Bool, List, [], ◌∷◌, find, Option, None, Some}
use Rattle.call_frames.specs.Entry.{TableView, EntryView}
use Rattle.call_frames.specs.Walk.{entries_of}
use Rattle.call_frames.specs.declared.spans.Span.{Span}

-- initial_location <= v < initial_location + address_range
abbrev pub covers : ℕ → EntryView → Bool
covers v e = nat_le e.begin v && nat_lt v (e.begin + e.range)

-- the first FDE of a table that covers v
abbrev pub first_covering : ℕ → TableView → Option EntryView
first_covering v t = find (covers v) (entries_of t)

-- the part of an FDE that is kept, to find it by an address
abbrev pub span_of : EntryView → Span
span_of e = record { begin = e.begin; range = e.range; spot = record { index = e.index; place = e.place } }

-- the same of the kept part
abbrev pub is_covering : ℕ → Span → Bool
is_covering v s = nat_le s.begin v && nat_lt v (s.begin + s.range)

-- the one of two that is first in the section
abbrev pub earlier : Span → Option Span → Option Span
earlier s None = Some s
earlier s (Some o) = if nat_lt s.spot.index o.spot.index then Some s else Some o

-- the earliest so far, once one is asked that may cover v
abbrev pub earliest_with : ℕ → Span → Option Span → Option Span
earliest_with v s best = if is_covering v s then earlier s best else best

-- the one that is first in the section, of those that cover v
abbrev pub earliest : ℕ → List Span → Option Span
earliest v [] = None
earliest v (s ∷ ss) = earliest_with v s (earliest v ss)

-- the last address that one covers, or the highest of all addresses if it passes that
abbrev pub last_of : Span → ℕ
last_of s = min (s.begin + (s.range - 1)) (2 ^ 64 - 1)

-- for each the highest last address among it, those before it, and a given one
abbrev pub greatest_ends : ℕ → List Span → List ℕ
greatest_ends m [] = []
greatest_ends m (s ∷ ss) = max (last_of s) m ∷ greatest_ends (max (last_of s) m) ss
