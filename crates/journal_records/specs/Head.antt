-- The known fields of a record once its head is checked, and the meaning of an error.
use Rattle.std.specs.Prelude.{◌≡◌, ℕ, ◌+◌, ◌%◌, ◌≤◌, List, length, Option, Some}
use Rattle.journal_layout.specs.declared.faults.OpenFault.{OpenFault}
use Rattle.journal_layout.specs.declared.faults.OpenFault.TheVariants.{Damaged, OutOfMemory}
use Rattle.journal_records.specs.declared.kind.RecordKind.{RecordKind}
use Rattle.journal_records.specs.declared.kind.RecordKind.TheVariants.{Store, Drop, Pin, Next, Label}
use Rattle.journal_layout.specs.Reading.{length_at, name_length_at, name_place}

-- The record has a length, with which it and the gate after it lie in these bytes.
pub record IsHeaded (rest : List ℕ) : Type 0 where
  pub least : 16 ≤ length_at rest
  pub whole : length_at rest % 16 ≡ 0
  pub in_half : length_at rest + 1 ≤ length rest

-- the byte of a kind
abbrev pub byte_of : RecordKind → ℕ
byte_of Store = 1
byte_of Drop = 2
byte_of Pin = 3
byte_of Next = 4
byte_of Label = 5

-- the error is this fault, if there is one, or there was no memory
abbrev pub SaysFault : Option OpenFault → OpenFault → Type 0
SaysFault fault (Damaged at which) = fault ≡ Some (Damaged at which)
SaysFault fault OutOfMemory = Unit {0}
SaysFault fault other = ⊥

-- The runs and the name lie in the record, and the name is short enough.
pub record IsPlaced (rest : List ℕ) : Type 0 where
  pub in_half : name_place rest + name_length_at rest ≤ length_at rest
  pub short : name_length_at rest ≤ 128
