-- The replacement of a damaged superblock, of the header of a half, or of a file's length.
use Rattle.std.specs.Prelude.{◌≡◌, ◌↔◌, ◌⊎◌, ℕ, ◌+◌, ◌-◌, ◌*◌, ◌/◌, ◌%◌, ◌<◌, ◌≤◌, Bool, true, false, List, [], ◌∷◌, ◌++◌, length, take, drop, replicate, slice_index, Option, None, Some, IsTrue}
use Rattle.disk_model.specs.Places.{part}
use Rattle.journal_layout.specs.Front.{is_known, shape_at}
use Rattle.journal_layout.specs.Layout.{IsWithinLimits, data_start, disk_length}
use Rattle.journal_layout.specs.Stands.{records_area}
use Rattle.journal_layout.specs.declared.faults.Field.{Field}
use Rattle.journal_layout.specs.declared.faults.Field.TheVariants as named
use Rattle.journal_layout.specs.declared.faults.OpenFault.{OpenFault}
use Rattle.journal_layout.specs.declared.faults.OpenFault.TheVariants.{Damaged, NotAnArchive, UnknownVersion}
use Rattle.journal_layout.specs.declared.shape.Half.{Half}
use Rattle.journal_layout.specs.declared.shape.Shape.{Shape}
use Rattle.salvage.specs.Alone.{AreZeros, was_open}
use Rattle.salvage.specs.Doubting.{generation_of}
use Rattle.salvage.specs.Finding.{is_of_front}
use Rattle.salvage.specs.Fronts.{fronted}
use Rattle.salvage.specs.Records.{number_of}
use Rattle.salvage.specs.declared.mending.Mend.{Mend}
use Rattle.salvage.specs.declared.mending.Mended.{Mended}

-- so many bytes: these, cut off there, or with zeros behind them
abbrev pub stretched : ℕ → List ℕ → List ℕ
stretched n b = take n (fronted b (replicate n 0))

-- how many whole data blocks a file of so many bytes has, if it is an archive of this shape
abbrev pub blocks_in : ℕ → Shape → ℕ
blocks_in held s = (held - data_start s) / 4096

-- these blocks are among the first ones, so many
abbrev pub AreBelow : ℕ → List ℕ → Type 0
AreBelow n [] = Unit {0}
AreBelow n (k ∷ rest) = (k < n) × AreBelow n rest

-- the bytes outside of the n bytes from place at on are the same in both
abbrev pub Spares : ℕ → ℕ → List ℕ → List ℕ → Type 0
Spares at n old new = (p m : ℕ) → (p + m ≤ at) ⊎ (at + n ≤ p) → part new p m ≡ part old p m

-- The superblock and the journal that are taken for those of a file with these bytes, of this shape. The records are the file's.
pub record IsMended (b : List ℕ) (shape : Shape) (front : List ℕ) : Type 0 where
  pub size : length front ≡ data_start shape
  pub records : (half : Half) → records_area front shape half ≡ records_area (stretched (disk_length shape) b) shape half

-- how a file with these bytes is mended
abbrev pub MendsArchive : List ℕ → Option Mended → Type 0
MendsArchive b None = Unit {0}
MendsArchive b (Some m) = IsMended b m.mend.shape m.front.items × (m.length ≡ disk_length m.mend.shape)

-- so many bytes of a file, with zeros after its end, and this front instead of its own
abbrev pub restored : List ℕ → ℕ → List ℕ → List ℕ
restored front n b = fronted front (stretched n b)

-- so many bytes from a place on; zeros are behind the end
unfoldable pub padded : List ℕ → ℕ → ℕ → List ℕ
padded b at n = take n (drop at b ++ replicate n 0)

-- the shape that the superblock of a file with these bytes says
abbrev pub said_shape : List ℕ → Shape
said_shape b = shape_at (padded b 0 24)

-- an archive of this shape has so many bytes
abbrev pub HasLength : Shape → ℕ → Type 0
HasLength s n = IsWithinLimits s × (disk_length s ≡ n)

-- These bytes are the header of a half that was written, of a version that is known.
pub record IsHeader (bytes : List ℕ) : Type 0 where
  pub empty : AreZeros bytes 1 4
  pub known : is_known (number_of bytes 4) ≡ true
  pub written : 0 < generation_of bytes 0
  pub filled : AreZeros bytes 16 32

-- A record may begin with these bytes: its gate is open or was, its kind is one of the five, and its length is a multiple of 16.
pub record MayBegin (bytes : List ℕ) : Type 0 where
  pub gate : was_open (slice_index bytes 0) ≡ true
  pub some_kind : 1 ≤ slice_index bytes 1
  pub known_kind : slice_index bytes 1 ≤ 5
  pub second : slice_index bytes 2 ≡ 0
  pub third : slice_index bytes 3 ≡ 0
  pub some : 16 ≤ number_of bytes 4
  pub whole : number_of bytes 4 % 16 ≡ 0

-- after a first half of so many blocks, a header stands, and a record may begin after it
abbrev pub HasSecond : List ℕ → ℕ → Type 0
HasSecond b blocks = IsHeader (padded b (4096 * (1 + blocks)) 40) × MayBegin (drop 32 (padded b (4096 * (1 + blocks)) 40))

-- A half has so many blocks without a doubt: the superblock says so, in a shape that has the file's length; or the second half begins there.
abbrev pub IsSureHalf : List ℕ → ℕ → Type 0
IsSureHalf b blocks = (HasLength (said_shape b) (length b) × (blocks ≡ (said_shape b).half_blocks)) ⊎ HasSecond b blocks

abbrev pub is_shape : Field → Bool
is_shape named.Shape = true
is_shape _ = false

-- a fault of the superblock, or of the file's length
abbrev pub is_of_superblock : OpenFault → Bool
is_of_superblock NotAnArchive = true
is_of_superblock (Damaged at field) = is_shape field
is_of_superblock _ = false

-- the same, or a fault of the header of a half
abbrev pub is_of_headers : OpenFault → Bool
is_of_headers NotAnArchive = true
is_of_headers (UnknownVersion version) = true
is_of_headers (Damaged at field) = is_of_front field
is_of_headers _ = false

-- The shape that is assumed for a file of so many bytes whose opening is refused with this fault: only for a fault of the superblock or of a
-- header.
pub record IsMend (size : ℕ) (why : OpenFault) (m : Mend) : Type 0 where
  pub fault : m.fault ≡ why
  pub held : m.held ≡ size
  pub headers : is_of_headers why ≡ true

-- It is reported as certainly the archive's if and only if no header has a fault and the number of blocks of a half is certain.
abbrev pub IsSureMend : List ℕ → Mend → Type 0
IsSureMend b m = IsTrue m.is_sure ↔ (is_of_superblock m.fault ≡ true) × IsSureHalf b m.shape.half_blocks
