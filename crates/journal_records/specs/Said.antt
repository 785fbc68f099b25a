-- The result of a reading, and its progress.
use Rattle.std.specs.Prelude.{◌≡◌, ◌≢◌, ℕ, ◌+◌, ◌<◌, ◌≤◌, List, length, map, slice_index, Option, IfSome, Result, Ok, Err}
use Rattle.journal_layout.specs.declared.faults.OpenFault.{OpenFault}
use Rattle.journal_layout.specs.declared.faults.OpenFault.TheVariants.{Damaged, OutOfMemory}
use Rattle.journal_layout.specs.Case.{case_of}
use Rattle.journal_layout.specs.Record.{Record}
use Rattle.journal_layout.specs.Folding.{Folded, nothing_yet, replayed, sizes, last_start}
use Rattle.journal_layout.specs.Stands.{StandInRow, AreFaulty}
use Rattle.journal_records.specs.declared.reading.Replayed.{Replayed}
use Rattle.journal_records.specs.declared.cases.Cases.{Cases}
use Rattle.journal_records.specs.Kept.{said_by, AreKept}

-- the cases and the next number that a half of this version gives
abbrev pub said_of : ℕ → Replayed → Folded
said_of version r = record { version = version; cases = map case_of r.entries.items; next = r.next }

-- the meaning of an error for these bytes of a half of this version, which are at this place of the disk
abbrev pub SaysFaulty : ℕ → ℕ → ℕ → List ℕ → OpenFault → Type 0
SaysFaulty limit version at bytes (Damaged place which) = AreFaulty limit at bytes (nothing_yet version) (Damaged place which)
SaysFaulty limit version at bytes OutOfMemory = Unit {0}
SaysFaulty limit version at bytes other = ⊥

-- These bytes begin with records in a row, which say this in `used` bytes, on `limit` data blocks and in this version. The last of them
-- begins there.
pub record IsAlong (limit version : ℕ) (bytes : List ℕ) (said : Folded) (last : Option ℕ) (used : ℕ) : Type 0 where
  pub records : List Record
  pub row : StandInRow limit bytes (nothing_yet version) records
  pub folded : replayed records (nothing_yet version) ≡ said
  pub ends : last_start records ≡ last
  pub size : sizes records ≡ used

-- These bytes begin with records in a row, in `used` bytes, of which the last begins there, on `limit` data blocks and in this version.
pub record EndsIn (limit version : ℕ) (bytes : List ℕ) (last : Option ℕ) (used : ℕ) : Type 0 where
  pub records : List Record
  pub row : StandInRow limit bytes (nothing_yet version) records
  pub ends : last_start records ≡ last
  pub size : sizes records ≡ used

-- the end of a reading, which the working state says
pub record IsThrough (limit version : ℕ) (bytes : List ℕ) (last : Option ℕ) (used : ℕ) (c : Cases) : Type 0 where
  pub along : IsAlong limit version bytes (said_by c) last used
  pub version_is : c.version ≡ version
  pub closed : slice_index bytes used ≢ 165
  pub kept : AreKept c
  pub in_half : used + 1 ≤ length bytes
  pub low : IfSome last (λ (n : ℕ). n < used)
  pub free : length c.free ≡ limit

abbrev pub ReadsAll : ℕ → ℕ → ℕ → List ℕ → Result (Option ℕ × ℕ) OpenFault → Cases → Type 0
ReadsAll limit version at bytes (Ok (last, used)) c = IsThrough limit version bytes last used c
ReadsAll limit version at bytes (Err e) c = SaysFaulty limit version at bytes e
