-- The entries of a table, one after another, and the first fault among them.
use Rattle.std.specs.Prelude.{ℕ, zero, suc, ◌+◌, ◌-◌, ◌==◌, ◌&&◌, ◌||◌, nat_le, if◌then◌else◌, Bool, List, [], ◌∷◌, length, Option, None, Some, Result, Ok, Err}
use Rattle.std.specs.Option.{option_or}
use Rattle.call_frames.specs.Entry.{TableView, EntryView, told_length, is_whole, entry_at}
use Rattle.call_frames.specs.declared.faults.CfiFault.{CfiFault}
use Rattle.call_frames.specs.declared.faults.CfiField.{CfiField}
use Rattle.call_frames.specs.declared.spots.Spot.{Spot}

-- no entry is at the front of the rest: it is empty, or begins with a length of 0
unfoldable pub is_end : List ℕ → Bool
is_end rest = length rest == 0 || (nat_le 4 (length rest) && told_length rest == 0)

-- how many bytes the entry at the front takes: one that is not whole takes all that is left
unfoldable pub entry_len : List ℕ → ℕ
entry_len rest = if is_whole rest then 4 + told_length rest else length rest

-- The spots of the entries in the rest of a table from place p on, if the first begins k places on and has number i.
unfoldable pub spots_past : ℕ → ℕ → ℕ → List ℕ → List Spot
spots_past k i p [] = []
spots_past zero i p (x ∷ xs) =
    if is_end (x ∷ xs) then [] else (record { index = i; place = p }) ∷ spots_past (entry_len (x ∷ xs) - 1) (i + 1) (p + 1) xs
spots_past (suc k) i p (x ∷ xs) = spots_past k i (p + 1) xs

-- those of a table's bytes
abbrev pub spots_of : List ℕ → List Spot
spots_of bytes = spots_past 0 0 0 bytes

-- an entry that is an FDE without a fault
abbrev pub sound_entry : Result (Option EntryView) CfiField → Option EntryView
sound_entry (Ok entry) = entry
sound_entry (Err f) = None

-- one entry, if there is one, before others
abbrev pub with_entry : Option EntryView → List EntryView → List EntryView
with_entry None entries = entries
with_entry (Some entry) entries = entry ∷ entries

-- the FDEs without a fault at some spots
unfoldable pub entries_among : TableView → List Spot → List EntryView
entries_among t [] = []
entries_among t (s ∷ ss) = with_entry (sound_entry (entry_at t s)) (entries_among t ss)

-- the fault of the entry at a spot
abbrev pub fault_of : Spot → Result (Option EntryView) CfiField → Option CfiFault
fault_of s (Ok entry) = None
fault_of s (Err f) = Some (record { «field» = f; index = s.index })

-- the first fault of the entries at some spots
unfoldable pub fault_among : TableView → List Spot → Option CfiFault
fault_among t [] = None
fault_among t (s ∷ ss) = option_or (fault_of s (entry_at t s)) (fault_among t ss)

-- the FDEs of a table, and its first fault
abbrev pub entries_of : TableView → List EntryView
entries_of t = entries_among t (spots_of t.bytes)

abbrev pub first_fault : TableView → Option CfiFault
first_fault t = fault_among t (spots_of t.bytes)
