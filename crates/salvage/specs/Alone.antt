-- Records that read by themselves, whatever the records around them say.
use Rattle.std.specs.Prelude.{◌≡◌, ◌⊎◌, ℕ, ◌+◌, ◌-◌, ◌*◌, ◌%◌, ◌<◌, ◌≤◌, Bool, true, false, ◌==◌, ◌||◌, List, [], ◌∷◌, ◌++◌, length, take, drop, slice_index}
use Rattle.disk_model.specs.Places.{part}
use Rattle.journal_layout.specs.Case.{Case}
use Rattle.journal_layout.specs.Folding.{nothing_yet}
use Rattle.journal_layout.specs.Record.{rounded}
use Rattle.journal_layout.specs.Stands.{AreRead}
use Rattle.salvage.specs.Records.{number_of}
use Rattle.salvage.specs.Shut.{is_shut}

-- A gate is open, or was before one of its bits changed.
abbrev pub was_open : ℕ → Bool
was_open gate = gate == 165 || is_shut gate

-- These bytes begin as a record of `size` bytes does, with room for the gate behind it.
pub record HasHead (rest : List ℕ) (size : ℕ) : Type 0 where
  pub gate : was_open (slice_index rest 0) ≡ true
  pub second : slice_index rest 2 ≡ 0
  pub third : slice_index rest 3 ≡ 0
  pub says : size ≡ number_of rest 4
  pub some : 16 ≤ size
  pub whole : size % 16 ≡ 0
  pub room : size < length rest

-- the record at the front of these bytes as the only one: its gate is open, and a closed gate follows it
abbrev pub alone : List ℕ → ℕ → List ℕ
alone rest size = 165 ∷ drop 1 (take size rest ++ 0 ∷ [])

-- A half of version 2 that has nothing but these records holds this case and no other.
abbrev pub SaysOne : ℕ → List ℕ → Case → Type 0
SaysOne blocks bytes c = (next : ℕ) × (used : ℕ) × AreRead blocks bytes (nothing_yet 2) (record { version = 2; cases = c ∷ []; next = next }) used

-- A Store record of `size` bytes is at the front of these bytes. As the only record of a half it says this case, in an archive of so many
-- data blocks.
pub record StoresCase (blocks : ℕ) (rest : List ℕ) (size : ℕ) (c : Case) : Type 0 where
  pub head : HasHead rest size
  pub kind : slice_index rest 1 ≡ 1
  pub limit : blocks ≤ 16777216
  pub said : SaysOne blocks (alone rest size) c

-- a Drop record names at least one number, and is as long as its numbers want
abbrev pub IsDropBody : List ℕ → ℕ → Type 0
IsDropBody rest size = (slice_index rest 1 ≡ 2) × (0 < number_of rest 8) × (size ≡ rounded (12 + 4 * number_of rest 8))

-- a Pin record has a flag
abbrev pub IsPinBody : List ℕ → ℕ → Type 0
IsPinBody rest size = (slice_index rest 1 ≡ 3) × (slice_index rest 12 ≤ 1) × (size ≡ 16)

abbrev pub IsNextBody : List ℕ → ℕ → Type 0
IsNextBody rest size = (slice_index rest 1 ≡ 4) × (size ≡ 16)

-- the bytes from one place to another are zeros
abbrev pub AreZeros : List ℕ → ℕ → ℕ → Type 0
AreZeros bytes start end = (k : ℕ) → start ≤ k → k < end → slice_index bytes k ≡ 0

-- a Label record has a text of at most 64 bytes, and zeros fill it up
pub record IsLabelBody (rest : List ℕ) (size : ℕ) : Type 0 where
  pub kind : slice_index rest 1 ≡ 5
  pub short : number_of rest 12 ≤ 64
  pub long : size ≡ rounded (16 + number_of rest 12)
  pub zeros : AreZeros rest (16 + number_of rest 12) size

-- the body of a record of `size` bytes that is no Store record
abbrev pub IsOtherBody : List ℕ → ℕ → Type 0
IsOtherBody rest size = IsDropBody rest size ⊎ IsPinBody rest size ⊎ IsNextBody rest size ⊎ IsLabelBody rest size

-- a record of `size` bytes that is no Store record is at the front of these bytes
abbrev pub IsOther : List ℕ → ℕ → Type 0
IsOther rest size = HasHead rest size × IsOtherBody rest size

-- a record of `size` bytes reads at the front of these bytes
abbrev pub Reads : ℕ → List ℕ → ℕ → Type 0
Reads blocks rest size = ((c : Case) × StoresCase blocks rest size c) ⊎ IsOther rest size

-- the bytes from one place to another
abbrev pub between : List ℕ → ℕ → ℕ → List ℕ
between bytes start end = part bytes start (end - start)

-- a record of `size` bytes reads at this place of a half that ends there
abbrev pub ReadsAt : ℕ → List ℕ → ℕ → ℕ → ℕ → Type 0
ReadsAt blocks bytes end place size = Reads blocks (between bytes place end) size

-- this place follows the header of a half, or a record that reads
abbrev pub IsBegin : ℕ → List ℕ → ℕ → ℕ → ℕ → Type 0
IsBegin blocks bytes start end place = (place ≡ start + 32) ⊎ ((r : ℕ) × (size : ℕ) × ReadsAt blocks bytes end r size × (place ≡ r + size))

-- this place follows the header of a half, or a record that reads and begins at such a place
abbrev pub IsRowEnd : ℕ → List ℕ → ℕ → ℕ → ℕ → Type 0
IsRowEnd blocks bytes start end place =
    (place ≡ start + 32) ⊎ ((r : ℕ) × (size : ℕ) × ReadsAt blocks bytes end r size × (place ≡ r + size) × IsBegin blocks bytes start end r)

-- The records of a half end at this place or before it: there is a closed gate that follows the header, the first record, or two records in a
-- row that read.
pub record IsPast (blocks : ℕ) (bytes : List ℕ) (start end place : ℕ) : Type 0 where
  pub gate : ℕ
  pub before : gate ≤ place
  pub closed : was_open (slice_index bytes gate) ≡ false
  pub behind : IsRowEnd blocks bytes start end gate

-- a record that reads begins before this place and ends behind it
pub record IsWithinOther (blocks : ℕ) (bytes : List ℕ) (end place : ℕ) : Type 0 where
  pub start : ℕ
  pub size : ℕ
  pub reads : ReadsAt blocks bytes end start size
  pub before : start < place
  pub behind : place < start + size
