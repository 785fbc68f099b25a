-- The meaning of records that read by themselves.
use Rattle.std.specs.Prelude.{◌≡◌, ◌⊎◌, ℕ, ◌+◌, ◌*◌, List, [], ◌∷◌, length, nat_le, slice_index, if◌then◌else◌, Option, None, Some}
use Rattle.std.specs.BTreeMap.{BTreeMap, get}
use Rattle.std.specs.List.{Contains, slice_get}
use Rattle.std.specs.Ordering.{nat_cmp}
use Rattle.journal_layout.specs.Case.{Case}
use Rattle.journal_layout.specs.Layout.{field}
use Rattle.salvage.specs.Cases.{HasCase}
use Rattle.salvage.specs.declared.records.Dropped.{Dropped}

-- the number in the four bytes from a place on, or 0 if they are not all there
abbrev pub number_of : List ℕ → ℕ → ℕ
number_of bytes place = if nat_le (place + 4) (length bytes) then field bytes place 4 else 0

-- The record at this place of these bytes is a Drop record, and this number is one of those that it names.
pub record IsDrop (bytes : List ℕ) (d : Dropped) : Type 0 where
  pub kind : slice_index bytes (d.place + 1) ≡ 2
  pub index : ℕ
  pub number : d.seq ≡ number_of bytes (d.place + 12 + 4 * index)

abbrev pub AreDrops : List ℕ → List Dropped → Type 0
AreDrops bytes [] = Unit {0}
AreDrops bytes (d ∷ rest) = IsDrop bytes d × AreDrops bytes rest

-- one of the records deletes the case of this number
abbrev pub IsDeleted : List Dropped → ℕ → Type 0
IsDeleted [] seq = ⊥
IsDeleted (d ∷ rest) seq = (d.seq ≡ seq) ⊎ IsDeleted rest seq

-- The index has the first record of each number that is named.
pub record AreIndexed (drops : List Dropped) (index : BTreeMap ℕ ℕ) : Type 0 where
  pub each : (seq : ℕ) → IsDeleted drops seq → (i : ℕ) × (get nat_cmp index seq ≡ Some i)
  pub there : (seq i : ℕ) → get nat_cmp index seq ≡ Some i → (d : Dropped) × (slice_get drops i ≡ Some d) × (d.seq ≡ seq)

-- a record at this place deletes the case of this number, if a place is given
abbrev pub IsDeletedAt : List Dropped → ℕ → Option ℕ → Type 0
IsDeletedAt drops seq None = Unit {0}
IsDeletedAt drops seq (Some place) = Contains drops (record { seq = seq; place = place })

-- of each of the second ones, if none of the records deletes it, the first ones have one
abbrev pub HasEachBut : List Dropped → List Case → List Case → Type 0
HasEachBut drops cases [] = Unit {0}
HasEachBut drops cases (c ∷ rest) = (HasCase cases c ⊎ IsDeleted drops c.seq) × HasEachBut drops cases rest
