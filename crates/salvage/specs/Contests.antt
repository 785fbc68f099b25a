-- Cases that may not both be there.
use Rattle.std.specs.Prelude.{◌≡◌, ◌⊎◌, ℕ, ◌+◌, ◌*◌, ◌≤◌, ◌<◌, Bool, true, List, get_or, slice_index, Option, Some}
use Rattle.std.specs.BTreeSet.{contains}
use Rattle.std.specs.List.{Contains}
use Rattle.std.specs.Ordering.{nat_cmp}
use Rattle.journal_layout.specs.Case.{Case, case_of}
use Rattle.journal_layout.specs.Layout.{half_length, half_start}
use Rattle.journal_layout.specs.declared.shape.Shape.{Shape}
use Rattle.journal_records.specs.Named.{has_name}
use Rattle.salvage.specs.Alone.{IsPast, IsWithinOther, StoresCase, between, was_open}
use Rattle.salvage.specs.Doubting.{taken_half}
use Rattle.salvage.specs.declared.doubts.Doubts.{Doubts}
use Rattle.salvage.specs.declared.records.Read.{Read}
use Rattle.salvage.specs.declared.records.Span.{Span}

-- the one case has the number, the name or a block of the other
abbrev pub Contests : Case → Case → Type 0
Contests one other =
    (one.seq ≡ other.seq) ⊎ (one.origin.name ≡ other.origin.name) ⊎ ((block : ℕ) × Contains one.blocks block × Contains other.blocks block)

-- whether a data block is used; one that the archive has not counts as used
abbrev pub is_used : List Bool → ℕ → Bool
is_used used block = get_or used block true

-- these blocks are used, or are not
abbrev pub AreUsed : List Bool → Bool → List ℕ → Type 0
AreUsed used is blocks = (block : ℕ) → Contains blocks block → is_used used block ≡ is

-- a used block stays used
abbrev pub StayUsed : List Bool → List Bool → Type 0
StayUsed old new = (block : ℕ) → is_used old block ≡ true → is_used new block ≡ true

-- the number, the name and the blocks of the case are known of a record behind the fault
pub record Knows (d : Doubts) (c : Case) : Type 0 where
  pub number : contains nat_cmp d.numbers c.seq ≡ true
  pub name : has_name d.names c.origin.name ≡ true
  pub blocks : AreUsed d.blocks.used.items true c.blocks

-- a known number stays known
abbrev pub StayKnown : Doubts → Doubts → Type 0
StayKnown old new = (c : Case) → Knows old c → Knows new c

-- the case of a read is known, if the record lies in this place
abbrev pub IsKnown : Doubts → Span → Read → Type 0
IsKnown d behind r = behind.start ≤ r.place.start → r.place.start < behind.end → Knows d (case_of r.entry)

abbrev pub AreKnown : Doubts → Span → List Read → Type 0
AreKnown d behind reads = (r : Read) → Contains reads r → IsKnown d behind r

-- the start and the end of the half whose records stand
abbrev pub taken_start : Shape → ℕ → ℕ
taken_start shape gate = half_start shape (taken_half shape gate)

abbrev pub taken_end : Shape → ℕ → ℕ
taken_end shape gate = taken_start shape gate + half_length shape

-- The place is at the first fault or after it, in the half whose records hold.
pub record IsBehind (shape : Shape) (gate place : ℕ) : Type 0 where
  pub within : taken_start shape gate < gate
  pub from : gate ≤ place
  pub before : place < taken_end shape gate

-- A Store record that reads by itself, from the first fault on, has this true of its case, or it lies within another or past the end of the
-- records.
abbrev pub OfEachBehind : Shape → List ℕ → ℕ → (Case → Type 0) → Type 0
OfEachBehind shape bytes gate P =
    was_open (slice_index bytes (taken_start shape gate)) ≡ true
    → (k place size : ℕ) (c : Case) → place ≡ taken_start shape gate + 32 + 16 * k → IsBehind shape gate place
    → StoresCase shape.data_blocks (between bytes place (taken_end shape gate)) size c
    → P c ⊎ IsWithinOther shape.data_blocks bytes (taken_end shape gate) place ⊎ IsPast shape.data_blocks bytes (taken_start shape gate) (taken_end shape gate) place

-- no case that is known of a record behind the fault contests this one
abbrev pub IsUncontested : Option Doubts → Case → Type 0
IsUncontested doubts c = (d : Doubts) → doubts ≡ Some d → (one : Case) → Knows d one → Contests one c → ⊥
