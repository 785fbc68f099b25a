-- The cases that were read of the records of a half.
use Rattle.std.specs.Prelude.{◌≡◌, ◌⊎◌, ℕ, ◌+◌, ◌*◌, ◌<◌, true, List, slice_index, Option, None, Some, Result, Ok, Err}
use Rattle.std.specs.List.{Contains}
use Rattle.journal_layout.specs.Case.{Case, case_of}
use Rattle.journal_layout.specs.Layout.{half_length, half_start}
use Rattle.journal_layout.specs.declared.entry.Entry.{Entry}
use Rattle.journal_layout.specs.declared.faults.OpenFault.{OpenFault}
use Rattle.journal_layout.specs.declared.shape.Half.{Half}
use Rattle.journal_layout.specs.declared.shape.Shape.{Shape}
use Rattle.salvage.specs.Alone.{HasHead, IsDropBody, IsPast, IsWithinOther, StoresCase, between, was_open}
use Rattle.salvage.specs.Cases.{IsSameCase}
use Rattle.salvage.specs.Records.{IsDeleted, number_of}
use Rattle.salvage.specs.declared.records.Dropped.{Dropped}
use Rattle.salvage.specs.declared.records.Read.{Read}

-- a record of `size` bytes that reads: the case that it stores; or it stores none
abbrev pub IsStored : ℕ → List ℕ → ℕ → Result (Option Entry) OpenFault → Type 0
IsStored blocks rest size (Ok (Some e)) = HasHead rest size → slice_index rest 1 ≡ 1 → StoresCase blocks rest size (case_of e)
IsStored blocks rest size (Ok None) = (c : Case) → StoresCase blocks rest size c → ⊥
IsStored blocks rest size (Err fault) = Unit {0}

-- One of these reads has the case. Records behind it may have pinned it, or given it a label.
abbrev pub IsAmong : List Read → Case → Type 0
IsAmong reads c = (r : Read) × Contains reads r × IsSameCase (case_of r.entry) c

-- the same of the record at this place
abbrev pub IsReadAt : List Read → ℕ → Case → Type 0
IsReadAt reads place c = (r : Read) × Contains reads r × (r.place.start ≡ place) × IsSameCase (case_of r.entry) c

-- each case that was read of a place still is
abbrev pub StayRead : List Read → List Read → Type 0
StayRead old new = (place : ℕ) (c : Case) → IsReadAt old place c → IsReadAt new place c

-- The read is that of a Store record at its place of these bytes, before the end of a half. Records behind it may have pinned its case, or
-- given it a label.
pub record IsFrom (blocks : ℕ) (bytes : List ℕ) (r : Read) : Type 0 where
  pub end : ℕ
  pub size : ℕ
  pub case : Case
  pub stores : StoresCase blocks (between bytes r.place.start end) size case
  pub place : r.place.end ≡ r.place.start + size
  pub same : IsSameCase (case_of r.entry) case

abbrev pub AreFrom : ℕ → List ℕ → List Read → Type 0
AreFrom blocks bytes reads = (r : Read) → Contains reads r → IsFrom blocks bytes r

-- reads that are of records still are
abbrev pub StayFrom : List Read → List Read → Type 0
StayFrom old new = (blocks : ℕ) (bytes : List ℕ) → AreFrom blocks bytes old → AreFrom blocks bytes new

-- each number that was named still is
abbrev pub StayNamed : List Dropped → List Dropped → Type 0
StayNamed old new = (seq : ℕ) → IsDeleted old seq → IsDeleted new seq

-- If a record reads at the front of the bytes at this place, its facts are taken: the case that it stores, and the numbers whose cases it
-- deletes.
pub record IsTaken (blocks : ℕ) (rest : List ℕ) (place : ℕ) (reads : List Read) (drops : List Dropped) : Type 0 where
  pub case : (size : ℕ) (c : Case) → StoresCase blocks rest size c → IsReadAt reads place c
  pub numbers : (size : ℕ) → HasHead rest size → IsDropBody rest size → (index : ℕ) → index < number_of rest 8 → IsDeleted drops (number_of rest (12 + 4 * index))

-- If the gate of the half is not closed, the facts of each of its records that reads are taken, unless the record lies within another or past
-- the end of the records. The place of a record is a multiple of 16 bytes after the header.
abbrev pub AreAllRead : ℕ → List ℕ → ℕ → ℕ → List Read → List Dropped → Type 0
AreAllRead blocks bytes start end reads drops =
    was_open (slice_index bytes start) ≡ true
    → (k place : ℕ) → place ≡ start + 32 + 16 * k → place < end
    → IsTaken blocks (between bytes place end) place reads drops ⊎ IsWithinOther blocks bytes end place ⊎ IsPast blocks bytes start end place

-- the same of both halves of an archive, in the bytes before its data blocks
abbrev pub AreHalvesRead : Shape → List ℕ → List Read → List Dropped → Type 0
AreHalvesRead shape front reads drops =
    (half : Half) → AreAllRead shape.data_blocks front (half_start shape half) (half_start shape half + half_length shape) reads drops
