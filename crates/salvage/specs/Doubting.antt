-- From which number on a case is doubtful that stands before the first fault.
use Rattle.std.specs.Prelude.{◌≡◌, ◌↔◌, ℕ, ◌+◌, ◌*◌, ◌<◌, Bool, true, false, ◌==◌, ◌&&◌, nat_lt, nat_le, not, if◌then◌else◌, List, drop, slice_index, Option, None, Some, IsTrue}
use Rattle.journal_layout.specs.Layout.{half_length, half_start}
use Rattle.journal_layout.specs.declared.faults.Field.{Field}
use Rattle.journal_layout.specs.declared.faults.Field.TheVariants as named
use Rattle.journal_layout.specs.declared.faults.OpenFault.{OpenFault}
use Rattle.journal_layout.specs.declared.faults.OpenFault.TheVariants.{Disk, NotAnArchive, UnknownVersion, Damaged, OutOfMemory}
use Rattle.journal_layout.specs.declared.shape.Half.{Half}
use Rattle.journal_layout.specs.declared.shape.Half.TheVariants.{A, B}
use Rattle.journal_layout.specs.declared.shape.Shape.{Shape}
use Rattle.salvage.specs.Alone.{ReadsAt}
use Rattle.salvage.specs.Finding.{is_of_front}
use Rattle.salvage.specs.Records.{number_of}
use Rattle.salvage.specs.declared.doubts.Trouble.{Trouble}
use Rattle.salvage.specs.declared.shown.Patch.{Patch}

-- the field with the fault; a gate, if the fault is of no field
abbrev pub field_of : OpenFault → Field
field_of (Damaged at field) = field
field_of Disk = named.Gate
field_of NotAnArchive = named.Gate
field_of (UnknownVersion version) = named.Gate
field_of OutOfMemory = named.Gate

abbrev pub place_of : Option Patch → ℕ
place_of None = 0
place_of (Some p) = p.at

-- The place of the first fault, if there is one: a damaged gate of an archive that opens; or else the gate that is shown as another, so that
-- the records before the fault open.
abbrev pub trouble_by : Option OpenFault → Option Patch → Option ℕ → Option Trouble
trouble_by fault patch (Some gate) = Some (record { gate = gate; field = named.Gate; is_refused = false })
trouble_by None patch None = None
trouble_by (Some fault) patch None = Some (record { gate = place_of patch; field = field_of fault; is_refused = true })

-- The half whose records stand: that in which the place is; or the other one, if the place is the gate of a half.
abbrev pub taken_half : Shape → ℕ → Half
taken_half shape gate =
    if gate == half_start shape A then B else
    if gate == half_start shape B then A else
    if nat_le (half_start shape B) gate then B else A

-- the number in the eight bytes from the ninth one on
abbrev pub long_of : List ℕ → ℕ
long_of rest = number_of rest 8 + number_of rest 12 * 4294967296

-- the generation in the header of a half that begins here
abbrev pub generation_of : List ℕ → ℕ → ℕ
generation_of bytes start = long_of (drop start bytes)

-- the number that a record has: that of the case which it stores, or the next one; 0 of another record
abbrev pub own_number : List ℕ → ℕ
own_number rest =
    if slice_index rest 1 == 1 then number_of rest 8 else
    if slice_index rest 1 == 4 then long_of rest else 0

-- the field is a number that is too small
abbrev pub is_of_number : Field → Bool
is_of_number named.Seq = true
is_of_number named.Next = true
is_of_number field = false

-- The number from which on cases are doubtful that come before a record with a fault. If that record does not read by itself, it is the damaged
-- one: no number is doubtful. If it does, it may be right, and one before it wrong. If its number is too small, a wrong one has the same
-- number or a higher one. With any other fault it may be any record.
abbrev pub bound_by : Field → Bool → ℕ → ℕ
bound_by field alone own =
    if is_of_front field then 0 else
    if alone then (if is_of_number field then own else 0) else 4294967296

-- The same for any fault. If a gate after the records is damaged, or the gate of the older half, no number is doubtful. If the gate of the
-- newer half or a header is damaged, every number is.
abbrev pub bound_at : List ℕ → ℕ → Bool → Trouble → Bool → ℕ
bound_at bytes start within t alone =
    if within then (if t.is_refused then bound_by t.field alone (own_number (drop t.gate bytes)) else 4294967296) else
    if nat_lt (generation_of bytes t.gate) (generation_of bytes start) && not t.is_refused then 4294967296 else 0

-- the place is behind the gate of a half, and within the half
abbrev pub is_behind : Shape → Half → ℕ → Bool
is_behind shape half gate = nat_lt (half_start shape half) gate && nat_lt gate (half_start shape half + half_length shape)

-- a record reads by itself at this place of a half
abbrev pub ReadsIn : Shape → List ℕ → Half → ℕ → Type 0
ReadsIn shape bytes half place = (size : ℕ) × ReadsAt shape.data_blocks bytes (half_start shape half + half_length shape) place size

-- whether a record with a fault reads by itself
abbrev pub IsAlone : Shape → List ℕ → Half → Trouble → Bool → Type 0
IsAlone shape bytes half t alone =
    half_start shape half < t.gate → t.gate < half_start shape half + half_length shape → t.is_refused ≡ true → IsTrue alone ↔ ReadsIn shape bytes half t.gate

-- from this number on a case is doubtful that stands before the fault
abbrev pub IsBound : Shape → List ℕ → Trouble → ℕ → Type 0
IsBound shape bytes t bound =
    (alone : Bool) × IsAlone shape bytes (taken_half shape t.gate) t alone
    × (bound ≡ bound_at bytes (half_start shape (taken_half shape t.gate)) (is_behind shape (taken_half shape t.gate) t.gate) t alone)
