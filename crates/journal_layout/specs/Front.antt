-- The superblock and the headers of the halves: the first checks of an opening, each with the place and the name of its field.
use Rattle.std.specs.Prelude.{ℕ, ◌+◌, Bool, ◌&&◌, ◌||◌, not, ◌==◌, nat_lt, nat_le, nat_eq, List, slice_index, drop, length, if◌then◌else◌, Result, Ok, Err}
use Rattle.std.specs.List.{starts_with}
use Rattle.disk_model.specs.Places.{part}
use Rattle.journal_layout.specs.declared.shape.Shape.{Shape}
use Rattle.journal_layout.specs.declared.shape.Half.{Half}
use Rattle.journal_layout.specs.declared.shape.Half.TheVariants.{A, B}
use Rattle.journal_layout.specs.declared.faults.Field.TheVariants as named
use Rattle.journal_layout.specs.declared.faults.OpenFault.{OpenFault}
use Rattle.journal_layout.specs.declared.faults.OpenFault.TheVariants.{NotAnArchive, UnknownVersion, Damaged}
use Rattle.journal_layout.specs.Layout.{field, magic, disk_length, half_start}

-- the gate at this place is open
abbrev pub is_open_at : List ℕ → ℕ → Bool
is_open_at b p = slice_index b p == 165

-- the superblock's gate is open, and the layout's name follows it
abbrev pub is_archive : List ℕ → Bool
is_archive b = is_open_at b 0 && starts_with nat_eq (drop 8 b) magic

abbrev pub shape_at : List ℕ → Shape
shape_at b = record { half_blocks = field b 16 4; data_blocks = field b 20 4 }

-- the shape lies in its limits, and a disk of this length has it
abbrev pub is_shape_of : ℕ → Shape → Bool
is_shape_of size s =
    nat_le 1 s.half_blocks && nat_le s.half_blocks 4096 && nat_le 1 s.data_blocks && nat_le s.data_blocks 16777216
    && (disk_length s == size)

-- the shape that a superblock gives, on a disk of this length
abbrev pub shape_opening : ℕ → List ℕ → Result Shape OpenFault
shape_opening size b =
    if is_archive b
    then (if is_shape_of size (shape_at b) then Ok (shape_at b) else Err (Damaged 16 named.Shape))
    else Err NotAnArchive

-- the fields of a half's header
pub record Header : Type 0 where
  pub is_open : Bool
  pub version : ℕ
  pub generation : ℕ

abbrev pub header_at : List ℕ → Header
header_at b = record { is_open = is_open_at b 0; version = field b 4 4; generation = field b 8 8 }

abbrev pub generation_fault : Shape → Half → OpenFault
generation_fault s half = Damaged (half_start s half + 8) named.Generation

-- the half that is taken: the open one with the greater generation
abbrev pub taken_half : Shape → Header → Header → Result Half OpenFault
taken_half s a b =
    if not a.is_open && not b.is_open then Err (Damaged 4096 named.Gate)
    else if a.is_open && (a.generation == 0) then Err (generation_fault s A)
    else if b.is_open && (b.generation == 0) then Err (generation_fault s B)
    else if a.is_open && b.is_open && (a.generation == b.generation) then Err (generation_fault s B)
    else if a.is_open && (not b.is_open || nat_lt b.generation a.generation) then Ok A
    else Ok B

-- the shape, and the half that is taken, of a version that is known
pub record Front : Type 0 where
  pub shape : Shape
  pub half : Half
  pub version : ℕ
  pub generation : ℕ

-- these versions of the layout are read
abbrev pub is_known : ℕ → Bool
is_known version = version == 1 || version == 2

abbrev pub half_opening : Shape → Half → Header → Result Front OpenFault
half_opening s half h =
    if is_known h.version
    then Ok (record { shape = s; half = half; version = h.version; generation = h.generation })
    else Err (UnknownVersion h.version)

-- the front that the headers of the halves give
abbrev pub headers_opening : Shape → Header → Header → Result Half OpenFault → Result Front OpenFault
headers_opening s a b (Ok A) = half_opening s A a
headers_opening s a b (Ok B) = half_opening s B b
headers_opening s a b (Err f) = Err f

-- a half's header, 32 bytes
abbrev pub header_of_half : Shape → List ℕ → Half → Header
header_of_half s b half = header_at (part b (half_start s half) 32)

abbrev pub halves_opening : List ℕ → Result Shape OpenFault → Result Front OpenFault
halves_opening b (Ok s) =
    headers_opening s (header_of_half s b A) (header_of_half s b B) (taken_half s (header_of_half s b A) (header_of_half s b B))
halves_opening b (Err f) = Err f

-- the front before the records of a disk with these bytes
abbrev pub front_opening : List ℕ → Result Front OpenFault
front_opening b =
    if nat_lt (length b) 4096 then Err NotAnArchive else halves_opening b (shape_opening (length b) (part b 0 24))
