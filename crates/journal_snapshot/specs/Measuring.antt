-- How much of a half a journal takes that is written anew.
use Rattle.std.specs.Prelude.{◌≡◌, ℕ, ◌+◌, ◌<◌, ◌≤◌, ◌^◌, List, length, Option, Some, None}
use Rattle.std.specs.List.{All}
use Rattle.journal_layout.specs.declared.entry.Entry.{Entry}
use Rattle.journal_snapshot.specs.declared.change.Change.{Change}
use Rattle.journal_snapshot.specs.declared.change.Change.TheVariants as change
use Rattle.journal_snapshot.specs.declared.measure.Measure.{Measure}
use Rattle.journal_snapshot.specs.Writing.{written_entries, written_added, AreAtMost}

-- the image of each of these entries lies in no more blocks than an image may have
abbrev pub AreShort : List Entry → Type 0
AreShort es = All (λ (e : Entry). length e.runs ≤ 2 ^ 52) es

abbrev pub IsShort : Change → Type 0
IsShort (change.Store seq e) = length e.now.runs ≤ 2 ^ 52
IsShort _ = Unit {0}

-- the bytes of the header, the records of the cases, and that of the next number
abbrev pub snapshot_bytes : Change → List Entry → ℕ
snapshot_bytes ch es = 48 + length (written_entries ch es) + length (written_added ch)

-- It is no more than any number of bytes into which the records of each case fit.
abbrev pub IsLeast : ℕ → Change → List Entry → Type 0
IsLeast largest ch es = (n : ℕ) → AreAtMost n ch es → length (written_added ch) ≤ n → largest ≤ n

-- They fit into a half of `half` bytes with the gate after them, and the longest records of a case are as long as that;
-- or they don't.
abbrev pub IsMeasure : ℕ → Change → List Entry → Option Measure → Type 0
IsMeasure half ch es (Some m) =
    (m.used ≡ snapshot_bytes ch es) × (m.used + 1 ≤ half) × AreAtMost m.largest ch es × (length (written_added ch) ≤ m.largest) × (m.largest ≤ m.used)
    × IsLeast m.largest ch es
IsMeasure half ch es None = half < snapshot_bytes ch es + 1

-- a measure with a record of `size` bytes more, in a half of `half` bytes
abbrev pub Grows : Measure → ℕ → ℕ → Option Measure → Type 0
Grows old size half (Some m) =
    (m.used ≡ old.used + size) × (m.used + 1 ≤ half) × (size ≤ m.largest) × (old.largest ≤ m.largest) × (m.largest ≤ old.largest + size)
    × ((n : ℕ) → old.largest ≤ n → size ≤ n → m.largest ≤ n)
Grows old size half None = half < old.used + size + 1
