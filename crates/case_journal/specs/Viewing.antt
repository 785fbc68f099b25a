-- The bytes that reads show of a disk, which may be any disk.
use Rattle.std.specs.Prelude.{◌≡◌, false, ℕ, nat_lt, List, length, IsTrue, Result, Ok, Err}
use Rattle.disk_model.specs.Places.{part, SameOutside}
use Rattle.disk_model.specs.declared.disk.Disk as disk
use Rattle.disk_model.specs.Moments.{LeavesOnly}
use Rattle.journal_layout.specs.declared.shape.Shape.{Shape}
use Rattle.journal_layout.specs.declared.shape.Half.{Half}
use Rattle.journal_layout.specs.declared.shape.Half.TheVariants.{A, B}
use Rattle.journal_layout.specs.declared.faults.OpenFault.{OpenFault}
use Rattle.journal_layout.specs.declared.faults.OpenFault.TheVariants.{Disk, OutOfMemory, NotAnArchive, UnknownVersion, Damaged}
use Rattle.journal_layout.specs.Layout.{half_start}
use Rattle.journal_layout.specs.Front.{Front, Header, header_of_half, front_opening, headers_opening, taken_half, shape_opening}
use Rattle.journal_layout.specs.Stands.{Stands, IsRefused}
use Rattle.journal_layout.specs.Standing.{Standing}
use Rattle.case_journal.specs.Journaled.{Journaled}
use Rattle.case_journal.specs.declared.front.HalfHeader.{HalfHeader}
use Rattle.case_journal.specs.declared.front.ArchiveFront.{ArchiveFront}

-- A list of bytes as long as the disk; on an honest disk the bytes that reads give. On any other disk each read shows a part of such a
-- list, as long as no byte is read twice.
pub record IsView {D : Type 0} (g : disk.Ghosts D) (d : D) (b : List ℕ) : Type 0 where
  pub long : length b ≡ g.size d
  pub is : IsTrue (g.is_honest d) → b ≡ g.seen d

-- a list that shows these bytes from place at on, and is otherwise as b
pub record Shows {D : Type 0} (g : disk.Ghosts D) (d : D) (at : ℕ) (bytes b : List ℕ) : Type 0 where
  pub shown : List ℕ
  pub view : IsView g d shown
  pub same : SameOutside at (length bytes) b shown
  pub there : part shown at (length bytes) ≡ bytes

-- The disk after a call that only reads and syncs.
pub record OnlyReads {D : Type 0} (g : disk.Ghosts D) (old new : D) : Type 0 where
  pub seen : IsTrue (g.is_honest old) → g.seen new ≡ g.seen old
  pub crash : IsTrue (g.is_honest old) → (c : List ℕ) → g.may_leave new c → g.may_leave old c
  pub moments : IsTrue (g.is_honest old) → LeavesOnly g old new (g.may_leave old)
  pub honesty : g.is_honest new ≡ g.is_honest old
  pub size : g.size new ≡ g.size old

-- the fields that the code keeps of a half's header, and of the front
abbrev pub header_of : HalfHeader → Header
header_of h = record { is_open = h.is_open; version = h.version; generation = h.generation }

abbrev pub front_view : ArchiveFront → Front
front_view f = record { shape = f.shape; half = f.half; version = f.version; generation = f.generation }

-- an answer is that of the front of these bytes, unless the disk failed
abbrev pub FrontGives : Result ArchiveFront OpenFault → List ℕ → Type 0
FrontGives (Ok t) b = front_opening b ≡ Ok (front_view t)
FrontGives (Err Disk) b = Unit {0}
FrontGives (Err OutOfMemory) b = front_opening b ≡ Err OutOfMemory
FrontGives (Err NotAnArchive) b = front_opening b ≡ Err NotAnArchive
FrontGives (Err (UnknownVersion v)) b = front_opening b ≡ Err (UnknownVersion v)
FrontGives (Err (Damaged at which)) b = front_opening b ≡ Err (Damaged at which)

-- an answer is that of the opening of these bytes, unless the disk or the memory failed
abbrev pub Gives : Result Journaled OpenFault → List ℕ → Type 0
Gives (Ok j) b = Stands b j.standing
Gives (Err Disk) b = Unit {0}
Gives (Err OutOfMemory) b = Unit {0}
Gives (Err NotAnArchive) b = IsRefused b NotAnArchive
Gives (Err (UnknownVersion v)) b = IsRefused b (UnknownVersion v)
Gives (Err (Damaged at which)) b = IsRefused b (Damaged at which)

-- the answer from both headers
abbrev pub FrontIs : Shape → Header → Header → Result ArchiveFront OpenFault → Type 0
FrontIs s a b (Ok t) = headers_opening s a b (taken_half s a b) ≡ Ok (front_view t)
FrontIs s a b (Err fault) = headers_opening s a b (taken_half s a b) ≡ Err fault

-- a view that shows this header of a half, and is otherwise as b
pub record ShowsHeader {D : Type 0} (g : disk.Ghosts D) (d : D) (s : Shape) (half : Half) (h : Header) (b : List ℕ) : Type 0 where
  pub shown : List ℕ
  pub view : IsView g d shown
  pub same : SameOutside (half_start s half) 32 b shown
  pub there : header_of_half s shown half ≡ h

-- a view that shows these headers, and has the superblock of b
pub record ShowsHeaders {D : Type 0} (g : disk.Ghosts D) (d : D) (s : Shape) (first second : Header) (b : List ℕ) : Type 0 where
  pub shown : List ℕ
  pub view : IsView g d shown
  pub long : length shown ≡ length b
  pub superblock : part shown 0 24 ≡ part b 0 24
  pub first_there : header_of_half s shown A ≡ first
  pub second_there : header_of_half s shown B ≡ second

-- the shape that a front's opening gets from a superblock
abbrev pub ShapeGives : Result Shape OpenFault → List ℕ → Type 0
ShapeGives (Ok s) b = (nat_lt (length b) 4096 ≡ false) × (shape_opening (length b) (part b 0 24) ≡ Ok s)
ShapeGives (Err Disk) b = Unit {0}
ShapeGives (Err OutOfMemory) b = front_opening b ≡ Err OutOfMemory
ShapeGives (Err NotAnArchive) b = front_opening b ≡ Err NotAnArchive
ShapeGives (Err (UnknownVersion v)) b = front_opening b ≡ Err (UnknownVersion v)
ShapeGives (Err (Damaged at which)) b = front_opening b ≡ Err (Damaged at which)

-- a view of which the answer is that of the superblock
pub record ShowsShape {D : Type 0} (g : disk.Ghosts D) (d : D) (r : Result Shape OpenFault) (b : List ℕ) : Type 0 where
  pub shown : List ℕ
  pub view : IsView g d shown
  pub gives : ShapeGives r shown

-- a view of which the answer is that of the front
pub record ShowsFront {D : Type 0} (g : disk.Ghosts D) (d : D) (r : Result ArchiveFront OpenFault) (b : List ℕ) : Type 0 where
  pub shown : List ℕ
  pub view : IsView g d shown
  pub gives : FrontGives r shown

-- a view of which the answer is that of the opening
pub record ShowsOpening {D : Type 0} (g : disk.Ghosts D) (d : D) (r : Result Journaled OpenFault) : Type 0 where
  pub shown : List ℕ
  pub view : IsView g d shown
  pub gives : Gives r shown

-- only the disk and the memory refuse an archive that is found
abbrev pub FindsStanding : Result Journaled OpenFault → Standing → Type 0
FindsStanding (Ok j) s = j.standing ≡ s
FindsStanding (Err Disk) s = Unit {0}
FindsStanding (Err OutOfMemory) s = Unit {0}
FindsStanding (Err fault) s = ⊥

-- a fault of the disk or of the memory
abbrev pub IsOpenRefusal : {T : Type 0} → Result T OpenFault → Type 0
IsOpenRefusal (Ok x) = Unit {0}
IsOpenRefusal (Err Disk) = Unit {0}
IsOpenRefusal (Err OutOfMemory) = Unit {0}
IsOpenRefusal (Err fault) = ⊥
