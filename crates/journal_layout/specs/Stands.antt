-- The archive that the bytes of a disk encode, and the answer of an opening of these bytes.
use Rattle.std.specs.Prelude.{◌≡◌, ◌≢◌, ◌⊎◌, ℕ, ◌+◌, ◌-◌, ◌≤◌, List, [], ◌∷◌, length, take, drop, slice_index, Some, Result, Ok, Err}
use Rattle.disk_model.specs.Places.{part}
use Rattle.journal_layout.specs.declared.shape.Shape.{Shape}
use Rattle.journal_layout.specs.declared.shape.Half.{Half}
use Rattle.journal_layout.specs.declared.faults.OpenFault.{OpenFault}
use Rattle.journal_layout.specs.Layout.{half_start, half_length}
use Rattle.journal_layout.specs.Record.{Record, record_size, spelling}
use Rattle.journal_layout.specs.Folding.{Folded, nothing_yet, after, replayed, sizes}
use Rattle.journal_layout.specs.Soundness.{IsSound}
use Rattle.journal_layout.specs.Checks.{record_fault}
use Rattle.journal_layout.specs.Front.{Front, front_opening}
use Rattle.journal_layout.specs.Standing.{Standing, folded_of}

-- the record is at the front of these bytes, with room for the gate after it, and may follow those before it
pub record StandsFirst (limit : ℕ) (bytes : List ℕ) (f : Folded) (r : Record) : Type 0 where
  pub spelled : take (record_size r) bytes ≡ spelling r
  pub in_half : record_size r + 1 ≤ length bytes
  pub sound : IsSound limit f r

-- the records are one after another at the front of these bytes
abbrev pub StandInRow : ℕ → List ℕ → Folded → List Record → Type 0
StandInRow limit bytes f [] = Unit {0}
StandInRow limit bytes f (r ∷ rest) = StandsFirst limit bytes f r × StandInRow limit (drop (record_size r) bytes) (after r f) rest

-- These bytes are records in a row, up to the first gate that is not open, and say this in `used` bytes.
pub record AreRead (limit : ℕ) (bytes : List ℕ) (f said : Folded) (used : ℕ) : Type 0 where
  pub records : List Record
  pub row : StandInRow limit bytes f records
  pub closed : slice_index bytes (sizes records) ≢ 165
  pub folded : replayed records f ≡ said
  pub size : sizes records ≡ used

-- These bytes are records in a row, and then a bad one after an open gate. The first byte is at this place of the disk.
pub record AreFaulty (limit at : ℕ) (bytes : List ℕ) (f : Folded) (fault : OpenFault) : Type 0 where
  pub records : List Record
  pub row : StandInRow limit bytes f records
  pub opened : slice_index bytes (sizes records) ≡ 165
  pub found : record_fault limit (at + sizes records) (drop (sizes records) bytes) (replayed records f) ≡ Some fault

-- the bytes of a half after its header
abbrev pub records_start : Shape → Half → ℕ
records_start s half = half_start s half + 32

abbrev pub records_area : List ℕ → Shape → Half → List ℕ
records_area b s half = part b (records_start s half) (half_length s - 32)

abbrev pub front_of : Standing → Front
front_of s = record { shape = s.shape; half = s.half; version = s.version; generation = s.generation }

-- No check of the opening fails on these bytes, and the records of the taken half say these cases and this next number.
pub record Stands (b : List ℕ) (s : Standing) : Type 0 where
  pub front : front_opening b ≡ Ok (front_of s)
  pub header : 32 ≤ s.used
  pub records : AreRead s.shape.data_blocks (records_area b s.shape s.half) (nothing_yet s.version) (folded_of s) (s.used - 32)

-- a record of the taken half is the first to fail a check
abbrev pub HasFaultyRecord : List ℕ → OpenFault → Type 0
HasFaultyRecord b fault =
    (t : Front) × (front_opening b ≡ Ok t)
    × AreFaulty t.shape.data_blocks (records_start t.shape t.half) (records_area b t.shape t.half) (nothing_yet t.version) fault

-- the opening of a disk with these bytes is refused so
abbrev pub IsRefused : List ℕ → OpenFault → Type 0
IsRefused b fault = (front_opening b ≡ Err fault) ⊎ HasFaultyRecord b fault

-- the opening of a disk with these bytes
abbrev pub Opening : List ℕ → Result Standing OpenFault → Type 0
Opening b (Ok s) = Stands b s
Opening b (Err fault) = IsRefused b fault
