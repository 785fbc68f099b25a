-- The place of the first bad record of an archive, and the patch with which the archive can be read.
use Rattle.std.specs.Prelude.{◌≡◌, ◌≢◌, ◌⊎◌, ℕ, ◌+◌, ◌-◌, ◌<◌, ◌≤◌, Bool, true, false, List, drop, slice_index, Option, None, Some, Result, Ok, Err}
use Rattle.journal_layout.specs.Checks.{record_fault}
use Rattle.journal_layout.specs.Folding.{nothing_yet, replayed, sizes}
use Rattle.journal_layout.specs.Front.{front_opening}
use Rattle.journal_layout.specs.Layout.{half_start}
use Rattle.journal_layout.specs.Record.{Record}
use Rattle.journal_layout.specs.Standing.{Standing, folded_of}
use Rattle.journal_layout.specs.Stands.{IsRefused, StandInRow, Stands, records_start, records_area, front_of}
use Rattle.journal_layout.specs.declared.faults.Field.{Field}
use Rattle.journal_layout.specs.declared.faults.Field.TheVariants as named
use Rattle.journal_layout.specs.declared.faults.OpenFault.{OpenFault}
use Rattle.journal_layout.specs.declared.faults.OpenFault.TheVariants.{Disk, OutOfMemory, Damaged}
use Rattle.journal_layout.specs.declared.shape.Half.TheVariants.{A, B}
use Rattle.salvage.specs.Showing.{shown}
use Rattle.salvage.specs.declared.finding.Sight.{Sight}
use Rattle.salvage.specs.declared.shown.Patch.{Patch}

-- The records of the taken half up to the first bad one say this. The fault is that of the opening.
pub record StandsUntil (b : List ℕ) (s : Standing) (fault : OpenFault) : Type 0 where
  pub front : front_opening b ≡ Ok (front_of s)
  pub header : 32 ≤ s.used
  pub records : List Record
  pub row : StandInRow s.shape.data_blocks (records_area b s.shape s.half) (nothing_yet s.version) records
  pub folded : replayed records (nothing_yet s.version) ≡ folded_of s
  pub size : sizes records ≡ s.used - 32
  pub opened : slice_index (records_area b s.shape s.half) (sizes records) ≡ 165
  pub found : record_fault s.shape.data_blocks (records_start s.shape s.half + sizes records) (drop (sizes records) (records_area b s.shape s.half)) (replayed records (nothing_yet s.version)) ≡ Some fault

-- the place of the gate after the records of the taken half
abbrev pub gate_of : Standing → ℕ
gate_of s = half_start s.shape s.half + s.used

-- the gate at this place is shown closed
abbrev pub closes : ℕ → Option Patch
closes gate = Some (record { at = gate; byte = 0 })

-- the place is that of the gate after the records of the one half or of the other
abbrev pub EndsAt : Standing → ℕ → Type 0
EndsAt u gate = (gate ≡ half_start u.shape A + u.used) ⊎ (gate ≡ half_start u.shape B + u.used)

-- If the gate at this place is shown closed, an archive stands whose records end there.
abbrev pub IsEnd : List ℕ → ℕ → Type 0
IsEnd b gate = (u : Standing) × Stands (shown (closes gate) b) u × EndsAt u gate

-- a fault of the disk or of the memory
abbrev pub IsShort : OpenFault → Type 0
IsShort fault = (fault ≡ Disk) ⊎ (fault ≡ OutOfMemory)

-- the gate of the first bad record, if there is one, has such a place
abbrev pub GatesHave : List ℕ → (ℕ → Type 0) → Type 0
GatesHave b P = (s : Standing) (fault : OpenFault) → StandsUntil b s fault → P (gate_of s)

abbrev pub IsGateFound : List ℕ → ℕ → Result Bool OpenFault → Type 0
IsGateFound b gate (Ok true) = IsEnd b gate
IsGateFound b gate (Ok false) = GatesHave b (λ place. place ≢ gate)
IsGateFound b gate (Err fault) = IsShort fault

abbrev pub IsLastGate : List ℕ → ℕ → Result (Option ℕ) OpenFault → Type 0
IsLastGate b at (Ok (Some gate)) = IsEnd b gate × GatesHave b (λ place. place ≤ at → place ≤ gate)
IsLastGate b at (Ok None) = GatesHave b (λ place. at < place)
IsLastGate b at (Err fault) = IsShort fault

abbrev pub patched_within : ℕ → Option ℕ → Type 0
patched_within size gate = (g : ℕ) → gate ≡ Some g → g < size

-- the result of a try whose opening is refused with this fault
abbrev pub not_found : OpenFault → Result Bool OpenFault
not_found Disk = Err Disk
not_found OutOfMemory = Err OutOfMemory
not_found _ = Ok false

-- the field is of the superblock or of a half's header, and of no record
abbrev pub is_of_front : Field → Bool
is_of_front named.Shape = true
is_of_front named.Gate = true
is_of_front named.Generation = true
is_of_front _ = false

-- The fault may be that of a record whose gate is at this place: it names a field of a record, and no byte before it.
abbrev pub IsBehind : ℕ → OpenFault → Type 0
IsBehind at (Damaged place which) = (at ≤ place) × (is_of_front which ≡ false)
IsBehind at _ = ⊥

-- an archive stands as it is shown so
abbrev pub Opens : List ℕ → Option Patch → Type 0
Opens b patch = (u : Standing) × Stands (shown patch b) u

abbrev pub IsOpened : List ℕ → Patch → Result Bool OpenFault → Type 0
IsOpened b patch (Ok true) = Opens b (Some patch)
IsOpened b patch (Ok false) = Unit {0}
IsOpened b patch (Err fault) = IsShort fault

-- a gate of a half that is shown closed or open; or no such gate makes the archive open
abbrev pub IsHalfFound : List ℕ → OpenFault → Result Patch OpenFault → Type 0
IsHalfFound b fault (Ok patch) = Opens b (Some patch)
IsHalfFound b fault (Err f) = (f ≡ fault) ⊎ IsShort f

-- the gate of the first bad record that is shown closed, if it is not after this byte
abbrev pub IsRecordFound : List ℕ → ℕ → OpenFault → Result Patch OpenFault → Type 0
IsRecordFound b at fault (Ok patch) = Opens b (Some patch) × GatesHave b (λ place. place ≤ at → Some patch ≡ closes place)
IsRecordFound b at fault (Err f) = IsShort f ⊎ ((f ≡ fault) × GatesHave b (λ place. at < place))

-- the first fault is not of a record, but of another part
abbrev pub HasNoGate : List ℕ → Type 0
HasNoGate b = (s : Standing) (fault : OpenFault) → StandsUntil b s fault → ⊥

-- the patch with which bytes open whose opening is refused with this fault
abbrev pub FindsPatch : List ℕ → OpenFault → Result Patch OpenFault → Type 0
FindsPatch b fault (Ok patch) =
    Opens b (Some patch) × IsRefused b fault × ((s : Standing) (why : OpenFault) → StandsUntil b s why → (why ≡ fault) × (Some patch ≡ closes (gate_of s)))
FindsPatch b fault (Err f) = IsShort f ⊎ ((f ≡ fault) × HasNoGate b)

-- How these bytes can be read.
pub record SeesArchive (b : List ℕ) (sight : Sight) : Type 0 where
  -- as they are shown so, an archive stands
  pub opens : Opens b sight.patch
  -- a sound archive is shown as it is
  pub sound : (s : Standing) → Stands b s → (sight.fault ≡ None) × (sight.patch ≡ None)
  -- so can every archive whose opening is not refused
  pub faultless : sight.fault ≡ None → sight.patch ≡ None
  -- if the first fault is of a record of the taken half, its gate is shown closed
  pub until : (s : Standing) (fault : OpenFault) → StandsUntil b s fault → (sight.fault ≡ Some fault) × (sight.patch ≡ closes (gate_of s))

-- and if they can't, the reason: the fault of the opening, which is not of a record, or the disk or the memory
abbrev pub FindsSight : List ℕ → Result Sight OpenFault → Type 0
FindsSight b (Ok sight) = SeesArchive b sight
FindsSight b (Err fault) = IsShort fault ⊎ (IsRefused b fault × HasNoGate b)
