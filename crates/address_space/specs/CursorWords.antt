-- The progress of a search through all addresses.
use Rattle.std.specs.Prelude.{◌≡◌, ◌<◌, ◌≤◌, ℕ, ◌+◌, ◌-◌, ◌*◌, ◌^◌, Bool, true, false, List, ◌++◌, length, drop, slice_index, Option, None, Some}
use Rattle.std.specs.Option.{option_map}
use Rattle.elf_view.specs.Header.{SegmentView}
use Rattle.address_space.specs.Source.{Space, decider, value_at}
use Rattle.address_space.specs.Occurrence.{is_decided_by, decided_from, ordered_from}
use Rattle.address_space.specs.declared.cursor.Cursor.{Cursor}

-- the values of some addresses, if they have any
abbrev pub value_in : Option (List ℕ) → ℕ → Option ℕ
value_in None k = None
value_in (Some b) k = Some (slice_index b k)

-- n addresses from a on, of at most limit, with one deciding segment and these values or none
pub record IsRun (space : Space) (a limit n : ℕ) (number : Option ℕ) (bytes : Option (List ℕ)) : Type 0 where
  pub some : 0 < n
  pub within : n ≤ limit
  pub decided : (k : ℕ) → k < n → option_map (λ (d : ℕ × SegmentView). d.0) (decider space (a + k)) ≡ number
  pub values : (k : ℕ) → k < n → value_at space (a + k) ≡ value_in bytes k

-- a test that addresses without a value do not pass
abbrev pub WantsValue : Space → (ℕ → Bool) → Type 0
WantsValue space test = (a : ℕ) → value_at space a ≡ None → test a ≡ false

-- the addresses that are still to come and pass the test: of the segment at hand, then of those after it
abbrev pub to_come : Space → (ℕ → Bool) → Cursor → List ℕ
to_come space test c = decided_from space test c.number c.at c.left ++ ordered_from space test (c.number + 1) (drop (c.number + 1) space.segments)

-- the bytes at hand are the values of the next addresses, and the segment at hand decides these
pub record IsPlaced (space : Space) (c : Cursor) : Type 0 where
  pub number : c.number < length space.segments
  pub values : (k : ℕ) → k < length c.here.now → value_at space (c.at + k) ≡ Some (slice_index c.here.now k)
  pub decided : (k : ℕ) → k < length c.here.now → is_decided_by space c.number (c.at + k) ≡ true

-- the work that is left: it falls with each step
abbrev pub work_left : Space → Cursor → ℕ
work_left space c = ((length space.segments - c.number) * 2 ^ 65 + c.left) * 2 + (1 - length c.here.now)
